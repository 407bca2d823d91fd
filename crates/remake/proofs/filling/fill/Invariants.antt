-- `remake::filling::fill` meets its contract. The loop's invariant: as many numbers as places passed stand at the buffer's front,
-- and `number` is the one that comes next.
use Rattle.remake.proofs.Remakes.{RemadeSoFar}
use Rattle.remake.proofs.filling.fill.Given as goal

abbrev pub invariant-loop-place : goal.invariant-loop-place
invariant-loop-place l = RemadeSoFar l.run l.position l.initial.place-items l.place-items l.number l.place-index
