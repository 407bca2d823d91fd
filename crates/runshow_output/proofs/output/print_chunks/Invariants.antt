-- The loop's invariant: no more was shown than is due. The measure is what is still due.
use mathlib.Core.Path.{◌≡◌}
use Prim.Native.Nat.{◌-◌, ◌≤◌}
use lib.ListN.{length}
use Rattle.runshow_text.specs.Text.{part_due}
use Rattle.runshow_output.proofs.output.print_chunks.Given as goal

abbrev pub invariant-loop-shown : goal.invariant-loop-shown
invariant-loop-shown g l =
    (length l.numbers ≡ length l.initial.numbers) × (length l.buf ≡ length l.initial.buf) × (l.shown ≤ part_due l.part.run l.part.first l.part.many)

abbrev pub decreases-loop-shown : goal.decreases-loop-shown
decreases-loop-shown g l = part_due l.part.run l.part.first l.part.many - l.shown
