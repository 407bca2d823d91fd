-- `search::period::doublings` meets its contract: the loop's invariant is `Turn`, with a law for each way through.
use Rattle.search.proofs.Rounds.{Turn}
use Rattle.search.proofs.period.doublings.Given as goal

abbrev pub invariant-loop-place : goal.invariant-loop-place
invariant-loop-place l = Turn l.limit l.initial.drift l.initial.factor l.drift l.factor l.e l.place
