-- `answer_all` meets its contract. The loop's invariant: the places left are those of the input from some byte on, and at most 65,000
-- of the 65,536 bytes are filled.
use Rattle.std.proofs.Common.{ℕ, ◌≡◌, ◌≤◌, length}
use Rattle.archive.specs.Parts.{places_left}
use Rattle.vectors_io.proofs.answer_all.Given as goal

abbrev pub invariant-loop-start : goal.invariant-loop-start
invariant-loop-start g l =
    ((at : ℕ) × (places_left l.start-iterator.bytes.now l.start-iterator.at ≡ places_left l.input at))
    × (l.filled ≤ 65000)
    × (length l.out ≡ 65536)
