-- `linear_orbits::indices::by_steps` meets its contract: the loop's invariant is `Passing`.
use Rattle.linear_orbits.proofs.LinearIndices.{Passing}
use Rattle.linear_orbits.proofs.indices.by_steps.Given as goal

abbrev pub invariant-loop-i : goal.invariant-loop-i
invariant-loop-i l = Passing l.g l.places l.y l.x l.i
