-- `search::period::doublings` meets its contract: the loop's invariant is `Turn`, with a law for each way through.
use Rattle.std.proofs.Common.{◌∙◌}
use Rattle.search.proofs.Rounds.{turn_start, turn_stays, turn_doubles, turn_done}
use Rattle.search.proofs.period.doublings.Goals as goal
use Rattle.search.proofs.period.doublings.Goals.{then-returning-place, else-returning-place}

pub loop-place-init : goal.loop-place-init
loop-place-init c = turn_start _ _ _

pub loop-place-preserved : goal.loop-place-preserved
loop-place-preserved c =
    let at = c.loop-place.invariant in
    elim c.if-returning-place.branch [
      | then-returning-place w ↦
          rw w.e-is
          (turn_doubles at c.loop-place-test.true c.alpha-returning.ensures (w.factor-is ∙ w.wrapping_mul-square.ensures)
          (w.drift-is ∙ w.wrapping_mul-drift.ensures) w.if-returning-place.true)
      | else-returning-place w ↦
          rw (w.drift-is, w.factor-is, w.e-is)
          (turn_stays at c.loop-place-test.true c.alpha-returning.ensures w.if-returning-place.false)
    ]

pub returns : goal.returns
returns c = turn_done c.loop-place.invariant c.loop-place-test.false
