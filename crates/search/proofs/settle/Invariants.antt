-- `search::settle` meets its contract: the loop's invariant is `Loop`, with a law for each way through.
use Rattle.search.proofs.Rounds.{Loop}
use Rattle.search.proofs.settle.Given as goal

abbrev pub invariant-loop-place : goal.invariant-loop-place
invariant-loop-place l =
    Loop l.limit l.initial.away l.initial.drift l.initial.factor l.away l.drift l.factor l.differs l.k l.period l.place
