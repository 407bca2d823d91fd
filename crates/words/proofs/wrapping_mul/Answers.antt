-- `words::wrapping_mul` meets its contract: the three products that count, each of two halves.
use Rattle.std.proofs.Common.{refl}
use Rattle.words.proofs.Halves.{halves_product}
use Rattle.words.proofs.wrapping_mul.Goals as goal

pub returns : goal.returns
returns c = halves_product c.args.a c.args.b refl refl
