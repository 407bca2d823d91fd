-- `text::write_chunk` meets its contract: the numbers written are the first of those remade.
use mathlib.Core.Path.{refl}
use native.Mathlib.Omega.{arith}
use Rattle.runshow_text.proofs.Chunks.{chunk_none, chunk_made, chunk_fits}
use borrow.Author.Rules.{rules}
use Rattle.runshow_text.proofs.text.write_chunk.Goals as goal

pub returns-in_default : goal.returns-in_default
returns-in_default c = chunk_none c.remake.ensures c.in_default.is refl _ _

pub write_numbers-requires : goal.write_numbers-requires
write_numbers-requires c =
    chunk_fits c.fitting-made.result c.remake.new.numbers (λ i l. search rules)
    (omega (arith, c.requires.numbers_in_bounds, c.remake.auto.numbers))

pub returns : goal.returns
returns c = chunk_made c.remake.ensures c.in-Ok.is refl c.fitting-made.ensures c.write_numbers.ensures
