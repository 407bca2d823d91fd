-- `linear_orbits::indices::by_steps` meets its contract: the loop's invariant is `Passing`.
use Rattle.std.proofs.Common.{arith}
use Rattle.linear_orbits.proofs.LinearIndices.{passing_start, passing_stays, passing_moves, passing_next, passing_never}
use Rattle.linear_orbits.proofs.indices.by_steps.Goals as goal

pub loop-i-init : goal.loop-i-init
loop-i-init c = passing_start _ _ _ c.low_bits-x.ensures

pub returns-then-after-y : goal.returns-then-after-y
returns-then-after-y c =
    passing_stays c.requires c.loop-i.invariant (omega (arith, c.loop-i-test.true))
    c.low_next-after.ensures c.if-x-y.true c.if-after-y.true

pub returns-then-x-y : goal.returns-then-x-y
returns-then-x-y c =
    passing_moves c.requires c.loop-i.invariant (omega (arith, c.loop-i-test.true))
    c.low_next-after.ensures c.if-x-y.true c.if-after-y.false

pub loop-i-preserved : goal.loop-i-preserved
loop-i-preserved c =
    passing_next c.requires c.loop-i.invariant (omega (arith, c.loop-i-test.true))
    c.low_next-after.ensures c.if-x-y.false

pub returns-else-x-y : goal.returns-else-x-y
returns-else-x-y c = passing_never c.requires (passing_next c.requires c.loop-i.invariant (omega (arith, c.loop-i-test.true)) c.low_next-after.ensures c.if-x-y.false) (omega (arith, c.loop-i.auto.i-end))
