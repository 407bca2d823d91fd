-- The loop's invariant is `FrontSoFar`: the lines of the numbers so far stand at the buffer's front.
use lib.ListN.{drop}
use Rattle.fields.proofs.Codec.{FrontSoFar}
use Rattle.runshow_text.specs.Text.{numbers_lines}
use Rattle.runshow_text.proofs.text.write_numbers.Given as goal

abbrev pub invariant-loop-number : goal.invariant-loop-number
invariant-loop-number l = FrontSoFar (numbers_lines l.numbers) (numbers_lines (drop l.number-index l.numbers)) l.initial.buf l.buf l.at
