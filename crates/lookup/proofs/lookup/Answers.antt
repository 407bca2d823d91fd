-- `lookup::lookup` meets its contract: the check refuses, or the search finds.
use Rattle.std.proofs.Common.{rules}
use Rattle.archive.proofs.Checking.{check_accepted}
use Rattle.lookup.proofs.EarliestLocation.{lookup_found, lookup_refused_lem}
use Rattle.lookup.proofs.lookup.Goals as goal

pub returns-in_err-checked : goal.returns-in_err-checked
returns-in_err-checked c =
    let refused = lookup_refused_lem c.args.value _ c.in_err-checked.was c.checked.ensures in
    search (refused, rules)

pub earliest-requires : goal.earliest-requires
earliest-requires c = check_accepted c.in_ok-checked.was c.checked.ensures

pub returns : goal.returns
returns c = lookup_found (check_accepted c.in_ok-checked.was c.checked.ensures) c.earliest.ensures
