-- `words::bits::low_bits` meets its contract: the mask is 64 ones shifted down to n.
use Rattle.words.proofs.Places.{mask_low}
use Rattle.words.proofs.bits.low_bits.Goals as goal

pub returns : goal.returns
returns c = mask_low c.args.x c.args.n c.requires.1
