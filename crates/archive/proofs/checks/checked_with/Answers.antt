-- `archive::checks::checked_with` meets its contract: the slots and the entries are room enough, and all are 0.
use Rattle.archive.proofs.Chaining.{zeros_chained}
use Rattle.archive.proofs.checks.checked_with.Goals as goal

pub lines_checked-requires-clause-chained : goal.lines_checked-requires-clause-chained
lines_checked-requires-clause-chained g c =
    zeros_chained _ _ c.requires.slots_bound c.requires.entries_bound.0
