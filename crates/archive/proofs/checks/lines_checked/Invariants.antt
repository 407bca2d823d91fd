-- `archive::checks::lines_checked` meets its contract: the loop is a walk whose state is the lines before, which are those in
-- the chains.
use Rattle.std.proofs.Common.{◌≡◌}
use Rattle.archive.specs.Parts.{places_left}
use Rattle.archive.proofs.LineByLine.{Passed}
use Rattle.archive.proofs.checks.lines_checked.Given as goal

abbrev pub invariant-loop-start : goal.invariant-loop-start
invariant-loop-start l =
    goal.iterator-loop-start.can_next l.start-iterator
    × goal.iterator-loop-start.is_finite l.start-iterator
    × Passed l.archive (places_left l.start-iterator.a.bytes.now l.start-iterator.a.at) l.start-iterator.b.start l.chains.head.now l.chains.next.now
    × (l.chains.head.ghost_name ≡ l.initial.chains.head.ghost_name)
    × (l.chains.next.ghost_name ≡ l.initial.chains.next.ghost_name)
