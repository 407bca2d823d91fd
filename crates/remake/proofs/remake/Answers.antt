-- `remake::remake` meets its contract.
use Rattle.std.proofs.Common.{rules, arith}
use Rattle.refusals.proofs.Replies.{number_accepted}
use Rattle.runs.proofs.Runs.{valid_run}
use Rattle.remake.proofs.Remakes.{remake_none}
use Rattle.remake.proofs.remake.Goals as goal

pub returns-then-run-position : goal.returns-then-run-position
returns-then-run-position c = remake_none _ _ (number_accepted c.checked.ensures c.in_ok-checked.was) c.if-run-position.true

pub fill-requires-clause-generator_value : goal.fill-requires-clause-generator_value
fill-requires-clause-generator_value c = (valid_run _ (number_accepted c.checked.ensures c.in_ok-checked.was)).generator

pub fill-requires-clause-position_bound : goal.fill-requires-clause-position_bound
fill-requires-clause-position_bound c =
    omega (arith, (valid_run _ (number_accepted c.checked.ensures c.in_ok-checked.was)).end, c.if-run-position.false)
