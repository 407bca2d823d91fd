-- The loop's invariant: there is room behind the bytes read. The measure is that room.
use Prim.Native.Nat.{◌-◌, ◌<◌}
use lib.ListN.{length}
use Rattle.archive_io.proofs.input.read_to_end.Given as goal

abbrev pub invariant-loop-last : goal.invariant-loop-last
invariant-loop-last g l = l.before < length l.buf

abbrev pub decreases-loop-last : goal.decreases-loop-last
decreases-loop-last g l = length l.buf - l.before
