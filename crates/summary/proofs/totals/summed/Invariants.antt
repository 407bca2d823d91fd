-- `summary::totals::summed` meets its contract: the loop is a walk that adds up the counts.
use mathlib.Core.Path.{◌≡◌}
use Prim.Native.Nat.{◌+◌, ◌<◌, ◌^◌}
use Rattle.archive.proofs.Walking.{RunsLeft}
use Rattle.summary.proofs.Summaries.{summing}
use Rattle.summary.proofs.totals.summed.Given as goal

abbrev pub invariant-loop-run : goal.invariant-loop-run
invariant-loop-run l =
    goal.iterator-loop-run.can_next l.run-iterator
    × goal.iterator-loop-run.is_finite l.run-iterator
    × RunsLeft summing 0 l.archive l.run-iterator.a.rest.now l.run-iterator.b.start l.total
    × (l.run-iterator.b.start ≡ l.line_count + 1)
    × (l.total < 2 ^ 64)
