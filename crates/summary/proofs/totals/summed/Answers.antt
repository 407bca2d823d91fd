-- `summary::totals::summed` meets its contract: the loop is a walk that adds up the counts.
use mathlib.Core.Path.{refl}
use native.Mathlib.Omega.{arith}
use Rattle.archive.proofs.Walking.{runs_start, runs_end}
use Rattle.summary.proofs.Summaries.{sum_next, sum_over, sum_end}
use Rattle.summary.proofs.totals.summed.Goals as goal

pub loop-run-init : goal.loop-run-init
loop-run-init c =
    let zip = c.zip-run-items.ensures in
    let start = runs_start c.requires c.into_iter-run-iterator.ensures.into_iter_gives zip.first zip.second c.runs_of.ensures.rest in
    ((start.0, tt), tt, start.1, start.2, omega arith)

pub returns-in_default : goal.returns-in_default
returns-in_default c =
    let steps = c.in-Some.ensures.steps in
    sum_over c.loop-run.invariant.2 steps.0 steps.1.0 (omega (arith, c.in_default.ensures))

pub loop-run-preserved : goal.loop-run-preserved
loop-run-preserved c =
    let steps = c.in-Some.ensures.steps in
    let sum = c.in-Some-checked_add.ensures in (
      c.in-Some.ensures.goes.keeps,
      tt,
      sum_next c.loop-run.invariant.2 steps.0 steps.1.0 refl steps.1.1 sum.1,
      steps.1.1,
      omega (arith, sum),
    )

pub returns : goal.returns
returns c =
    let w = c.loop-run.invariant in
    sum_end _ _ _ w.3 (runs_end c.loop-run.run-iterator w.2 c.in-None.ensures.steps) w.4
