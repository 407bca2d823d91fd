-- `words::alpha` meets its contract: the machine's count of trailing zeros is α.
use Rattle.words.proofs.Places.{trailing_alpha}
use Rattle.words.proofs.alpha.Goals as goal

pub returns : goal.returns
returns c = trailing_alpha c.args.z c.ranges.z.fits
