-- `player::shown` meets its contract: a record that passes the check has a position on its run, so no index is above 2^64 - 1.
use native.Mathlib.Omega.{arith}
use Rattle.refusals.proofs.Replies.{number_accepted, value_given}
use Rattle.runs.specs.Run.{shows}
use Rattle.runs.proofs.Runs.{valid_run}
use Rattle.player.proofs.Promises.{held_passed, shown_promise}
use Rattle.player.proofs.shown.Goals as goal

pub overflow_add-index : goal.overflow_add-index
overflow_add-index c =
    let held = (held_passed c.args.player (number_accepted c.held.ensures c.in_ok-held.was)) in
    record { fits = omega (arith, held.on, (valid_run _ held.run).end) }

pub value_of-requires : goal.value_of-requires
value_of-requires c = (valid_run _ (held_passed c.args.player (number_accepted c.held.ensures c.in_ok-held.was)).run).generator

pub returns : goal.returns
unfolding shows
returns c =
    shown_promise _
    (value_given _ (held_passed c.args.player (number_accepted c.held.ensures c.in_ok-held.was)).passed c.value_of.ensures)
