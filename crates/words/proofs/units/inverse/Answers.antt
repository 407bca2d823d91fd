-- `words::units::inverse` meets its contract: an odd number inverts itself in two places, and each step doubles them.
use Rattle.std.proofs.Common.{lit≤}
use Rattle.words.proofs.Iteration.{odd_square}
use Rattle.words.proofs.units.inverse.Goals as goal

pub returns : goal.returns
returns c =
    let x4 = c.newton-x4.ensures.doubles 2 (lit≤ tt) (lit≤ tt) (odd_square c.args.a c.requires) in
    let x8 = c.newton-x8.ensures.doubles 4 (lit≤ tt) (lit≤ tt) x4 in
    let x16 = c.newton-x16.ensures.doubles 8 (lit≤ tt) (lit≤ tt) x8 in
    let x32 = c.newton-x32.ensures.doubles 16 (lit≤ tt) (lit≤ tt) x16 in
    c.newton.ensures.doubles 32 (lit≤ tt) (lit≤ tt) x32
