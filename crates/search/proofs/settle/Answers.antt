-- `search::settle` meets its contract: the loop's invariant is `Loop`, with a law for each way through.
use Rattle.std.proofs.Common.{◌∙◌}
use Rattle.search.proofs.Rounds.{loop_start, loop_stays, loop_doubles, loop_stops, loop_done}
use Rattle.search.proofs.settle.Goals as goal
use Rattle.search.proofs.settle.Goals.{then-returning-place, else-returning-place+else-differs-place}

pub loop-place-init : goal.loop-place-init
loop-place-init c = loop_start _ _ _ c.alpha-differs.ensures

pub loop-place-preserved : goal.loop-place-preserved
loop-place-preserved c =
    let at = c.loop-place.invariant in
    elim c.if-returning-place.branch [
      | then-returning-place w ↦
          loop_doubles at c.loop-place-test.true c.alpha-returning.ensures w.if-returning-place.true w.wrapping_mul.ensures
          w.alpha-beyond.ensures (w.factor-is ∙ w.wrapping_mul-square.ensures) (w.drift-is ∙ w.wrapping_mul-drift.ensures)
          w.period-is (w.differs-is ∙ w.select_unpredictable-differs.ensures) (w.k-is ∙ w.select_unpredictable-k.ensures)
          (w.away-is ∙ w.select_unpredictable-away.ensures)
      | else-returning-place+else-differs-place w ↦
          rw (w.away-is, w.drift-is, w.factor-is, w.differs-is, w.k-is, w.period-is)
          (loop_stays at c.loop-place-test.true c.alpha-returning.ensures w.if-returning-place.false w.if-differs-place.false)
    ]

pub returns-then-differs-place : goal.returns-then-differs-place
returns-then-differs-place c =
    loop_stops c.loop-place.invariant c.loop-place-test.true c.alpha-returning.ensures c.if-returning-place.false
    c.if-differs-place.true c.alpha.ensures

pub returns : goal.returns
returns c = loop_done c.loop-place.invariant c.loop-place-test.false c.alpha-2.ensures
