-- `words::units::newton` meets its contract: a step of Newton's iteration doubles the places of an inverse.
use Rattle.std.proofs.Common.{lit<}
use Rattle.words.proofs.Congruence.{sub_wraps}
use Rattle.words.proofs.Iteration.{newton_doubles}
use Rattle.words.proofs.units.newton.Goals as goal

pub returns : goal.returns
returns c =
    let y = c.wrapping_mul in
    newton_doubles c.args.a c.args.x _ y.ensures (sub_wraps 2 y.result (lit< tt) y.type_inv) c.wrapping_mul-2.ensures
