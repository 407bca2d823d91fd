-- `generator::kinds::next_of` meets its contract: each kind has its own.
use Rattle.generator.proofs.Refusals.{kind_told}
use Rattle.generator.proofs.Elements.{prime_below}
use Rattle.generator.proofs.kinds.next_of.Goals as goal

pub next-requires-in-Prime : goal.next-requires-in-Prime
next-requires-in-Prime c =
    let v = kind_told c.kind_of.ensures c.in-Prime.is c.requires.0 in
    (v, prime_below v c.requires.1)
