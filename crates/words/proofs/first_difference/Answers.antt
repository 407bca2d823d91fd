-- `words::first_difference` meets its contract: α of the difference modulo 2^64.
use Rattle.words.proofs.Congruence.{sub_wraps}
use Rattle.words.proofs.Places.{alpha_difference}
use Rattle.words.proofs.first_difference.Goals as goal

pub returns : goal.returns
returns c = alpha_difference (sub_wraps c.args.a c.args.b c.ranges.a.fits c.ranges.b.fits) c.alpha.ensures
