-- `orbits::orbit` meets its contract: the orbit is that of every kind, and the kind tells what the reply carries.
use Rattle.std.proofs.Common.{◌∙◌}
use Rattle.refusals.proofs.Replies.{number_accepted}
use Rattle.orbits.proofs.Orbits.{orbit_linear, orbit_prime}
use Rattle.orbits.proofs.orbit.Goals as goal

pub returns-in-Linear : goal.returns-in-Linear
returns-in-Linear c =
    orbit_linear _ (number_accepted c.checked.ensures c.in_ok-checked.was) c.orbit_of-found.ensures (c.kind_of.ensures.is ∙ c.in-Linear.is)
    c.exponent_of.ensures

pub returns-in-Prime : goal.returns-in-Prime
returns-in-Prime c =
    orbit_prime _ (number_accepted c.checked.ensures c.in_ok-checked.was) c.orbit_of-found.ensures (c.kind_of.ensures.is ∙ c.in-Prime.is)
