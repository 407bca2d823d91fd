-- `lookup::location::earliest` meets its contract: the loop is a walk that seeks the first run that shows y.
use Rattle.archive.proofs.Walking.{RunsLeft}
use Rattle.lookup.proofs.Walk.{showing}
use Rattle.lookup.proofs.location.earliest.Given as goal

abbrev pub invariant-loop-run : goal.invariant-loop-run
invariant-loop-run l =
    goal.iterator-loop-run.can_next l.run-iterator
    × goal.iterator-loop-run.is_finite l.run-iterator
    × RunsLeft (showing l.y) tt l.archive l.run-iterator.a.rest.now l.run-iterator.b.start tt
