-- `linear_orbits::orbit::orbit` meets its contract.
use Rattle.std.proofs.Common.{arith}
use Rattle.linear_orbits.proofs.Begins.{doublings_orbit}
use Rattle.linear_orbits.proofs.LinearOrbits.{odd_is}
use Rattle.linear_orbits.proofs.orbit.orbit.Goals as goal

pub returns : goal.returns
returns c = odd_is c.requires ((doublings_orbit c.drift_from.result c.requires (omega (arith, c.if-g-eq0.false)) c.drift_from.ensures
    c.doublings-exponent.ensures)) c.ones.ensures
