-- `lookup::location::earliest` meets its contract: the loop is a walk that seeks the first run that shows y.
use mathlib.Core.Path.{refl}
use Rattle.archive.proofs.Walking.{runs_start, runs_end, first_accepted}
use Rattle.lookup.proofs.Walk.{look_next, look_found, look_end}
use Rattle.lookup.proofs.location.earliest.Goals as goal

pub position_in-requires : goal.position_in-requires
position_in-requires c = first_accepted _ c.loop-run.invariant.0.0 c.in-Some.ensures.steps.0

pub returns-in-Some-position_in : goal.returns-in-Some-position_in
returns-in-Some-position_in c =
    let steps = c.in-Some.ensures.steps in
    look_found _ c.loop-run.invariant.2 steps.0 steps.1.0 c.in-Some-position_in.ensures

pub loop-run-init : goal.loop-run-init
loop-run-init c =
    let zip = c.zip-run-items.ensures in
    let start = runs_start c.requires c.into_iter-run-iterator.ensures.into_iter_gives zip.first zip.second c.runs_of.ensures.rest in
    ((start.0, tt), tt, start.1)

pub loop-run-preserved : goal.loop-run-preserved
loop-run-preserved c =
    let steps = c.in-Some.ensures.steps in
    (c.in-Some.ensures.goes.keeps, tt, look_next _ c.loop-run.invariant.2 steps.0 steps.1.0 refl steps.1.1 c.in_default.ensures)

pub returns : goal.returns
returns c = look_end _ c.loop-run.invariant.2 (runs_end c.loop-run.run-iterator c.loop-run.invariant.2 c.in-None.ensures.steps)
