-- `linear_orbits::orbit::preperiod` meets its contract.
use native.Mathlib.Omega.{arith}
use Rattle.linear_orbits.proofs.LinearOrbits.{even_orbit, resting_orbit}
use Rattle.linear_orbits.proofs.orbit.preperiod.Goals as goal

pub returns-then-left-eq0 : goal.returns-then-left-eq0
returns-then-left-eq0 c =
    resting_orbit c.requires c.alpha-v.ensures c.once.ensures c.value_at.ensures
    c.first_difference-place.ensures (omega (arith, c.saturating_sub-left.ensures, c.if-left-eq0.true))

pub returns : goal.returns
returns c =
    even_orbit c.requires c.alpha-v.ensures c.once.ensures c.value_at.ensures
    c.first_difference-place.ensures c.saturating_sub-left.ensures c.div_ceil.ensures
