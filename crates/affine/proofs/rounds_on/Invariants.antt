-- `affine::rounds_on` has made some rounds, however often it went on.
use Rattle.affine.specs.Trace.{Onward}
use Rattle.affine.proofs.rounds_on.Given as goal

abbrev pub invariant-loop : goal.invariant-loop
invariant-loop l = Onward l.initial.p l.p
