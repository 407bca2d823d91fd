-- `text::write_runs` meets its contract: the loop is a walk that writes the line of each run.
use Rattle.runsum_text.proofs.Writing.{TextSoFar}
use Rattle.runsum_text.proofs.text.write_runs.Given as goal

abbrev pub invariant-loop-run : goal.invariant-loop-run
invariant-loop-run l =
    goal.iterator-loop-run.can_next l.run-iterator
    × goal.iterator-loop-run.is_finite l.run-iterator
    × TextSoFar l.archive l.initial.buf l.buf l.run-iterator.a.rest.now l.run-iterator.b.start l.n
