-- `text::write_runs` meets its contract: the loop is a walk that writes the line of each run.
use mathlib.Core.Path.{refl}
use native.Mathlib.Omega.{arith}
use lib.ListN.{length-take, length-drop}
use Rattle.archive.proofs.Walking.{runs_start, runs_end, first_accepted}
use Rattle.runsum_text.proofs.Writing.{text_start, text_room, text_next, text_end, text_kept}
use Rattle.runsum_text.proofs.text.write_runs.Goals as goal

pub loop-run-init : goal.loop-run-init
loop-run-init c =
    let zip = c.zip-run-items.ensures in
    let start = runs_start c.requires.archive_value c.into_iter-run-iterator.ensures.into_iter_gives zip.first zip.second c.runs_of.ensures.rest in
    ((start.0, tt), tt, text_start start.1)

pub slice_bounds-write_run-count : goal.slice_bounds-write_run-count
slice_bounds-write_run-count c =
    let steps = c.in-Some.ensures.steps in
    (text_room c.loop-run.invariant.2 steps.0 steps.1.0 c.requires.archive_in_bounds).0

pub slice_bounds-write_run-start : goal.slice_bounds-write_run-start
slice_bounds-write_run-start c =
    let steps = c.in-Some.ensures.steps in
    (text_room c.loop-run.invariant.2 steps.0 steps.1.0 c.requires.archive_in_bounds).0

pub write_run-n-requires : goal.write_run-n-requires
write_run-n-requires c =
    let steps = c.in-Some.ensures.steps in
    let room = text_room c.loop-run.invariant.2 steps.0 steps.1.0 c.requires.archive_in_bounds in
    record {
      run_value = first_accepted _ c.loop-run.invariant.0.0 steps.0;
      run_in_bounds = simp (length-take, length-drop) (omega (arith, room));
    }

pub overflow_add-n : goal.overflow_add-n
overflow_add-n c =
    let steps = c.in-Some.ensures.steps in
    omega (
      arith,
      text_room c.loop-run.invariant.2 steps.0 steps.1.0 c.requires.archive_in_bounds,
      c.write_run-n.ensures.count,
      c.well_formed,
    )

pub loop-run-preserved : goal.loop-run-preserved
loop-run-preserved c =
    let steps = c.in-Some.ensures.steps in (
      c.in-Some.ensures.goes.keeps,
      tt,
      text_next c.loop-run.invariant.2 steps.0 steps.1.0 refl steps.1.1 c.write_run-n.ensures,
    )

pub shape_of-buf : goal.shape_of-buf
shape_of-buf c =
    let t = c.loop-run.invariant.2 in
    text_kept t (runs_end c.loop-run.run-iterator t.left c.in-None.ensures.steps) c.requires.archive_in_bounds

pub returns : goal.returns
returns c =
    let t = c.loop-run.invariant.2 in
    text_end t (runs_end c.loop-run.run-iterator t.left c.in-None.ensures.steps)
