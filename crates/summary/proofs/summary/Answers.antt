-- `summary::summary` meets its contract: the check refuses, or the counts are added up.
use Rattle.std.proofs.Common.{rules}
use Rattle.archive.proofs.Checking.{check_accepted}
use Rattle.summary.proofs.Summaries.{summary_summed, summary_refused_lem}
use Rattle.summary.proofs.summary.Goals as goal

pub returns-in_err-checked : goal.returns-in_err-checked
returns-in_err-checked c =
    let refused = summary_refused_lem _ c.in_err-checked.was c.checked.ensures in
    search (refused, rules)

pub summed-requires : goal.summed-requires
summed-requires c = check_accepted c.in_ok-checked.was c.checked.ensures

pub returns : goal.returns
returns c = summary_summed (check_accepted c.in_ok-checked.was c.checked.ensures) c.summed.ensures
