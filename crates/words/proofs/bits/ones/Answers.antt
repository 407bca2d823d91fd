-- `words::bits::ones` meets its contract: 64 ones shifted down to n.
use Rattle.std.proofs.Common.{arith, pow_pos}
use Rattle.words.proofs.Places.{ones_shifted}
use Rattle.words.proofs.bits.ones.Goals as goal

pub returns-else-n-eq0 : goal.returns-else-n-eq0
returns-else-n-eq0 c = let n = c.args.n in omega (arith, ones_shifted n c.requires, pow_pos n)
