-- The orbit of a generator (SCOPE 3.2; document 02, note 5).
use Rattle.std.specs.Prelude.{◌≡◌, Result, Ok, Err, ℕ, zero, suc, ◌%◌, ◌^◌, ◌≤◌}
use Rattle.sequences.specs.Orbit.{preperiod_of, period_of, IsOrbit, exponent_of}
use Rattle.generator.specs.declared.Generator.{Generator}
use Rattle.generator.specs.declared.Kind.{Kind}
use Rattle.generator.specs.declared.Kind.TheVariants as kind
use Rattle.generator.specs.Recurrence.{kind_of, modulus, element}
use Rattle.refusals.specs.declared.Refusal.{Refusal}
use Rattle.refusals.specs.Refusals.{number_of}
use Rattle.generator.specs.Check.{refusal_of}
use Rattle.orbits.specs.declared.OrbitAnswer.{OrbitAnswer}
use Rattle.orbits.specs.declared.OrbitAnswer.TheVariants.{Orbit, Period}
use Rattle.orbits.specs.declared.OrbitReply.{OrbitReply}

-- The reply for a refusal's number, 0 for none, a kind, a preperiod and a period: the period by its exponent of 2, and of a
-- prime-modulus model the period itself. Zeros stand beside a refusal.
abbrev pub orbit_reply : ℕ → Kind → ℕ → ℕ → OrbitReply
orbit_reply zero kind.Linear t P = record { refusal = 0; preperiod = t; exponent = exponent_of P; period = 0 }
orbit_reply zero kind.Prime t P = record { refusal = 0; preperiod = t; exponent = 0; period = P }
orbit_reply (suc r) k t P = record { refusal = suc r; preperiod = 0; exponent = 0; period = 0 }

-- What an answer says.
abbrev pub plain_orbit : Result OrbitAnswer Refusal → OrbitReply
plain_orbit (Ok (Orbit t e)) = record { refusal = 0; preperiod = t; exponent = e; period = 0 }
plain_orbit (Ok (Period t P)) = record { refusal = 0; preperiod = t; exponent = 0; period = P }
plain_orbit (Err r) = record { refusal = number_of r; preperiod = 0; exponent = 0; period = 0 }

-- The period that a reply carries: itself or, where that is 0, by its exponent.
abbrev pub carried : ℕ → ℕ → ℕ
carried zero e = 2 ^ e
carried (suc p) e = suc p

-- The promise of the call: the reply is the definitions'; an accepted one is the orbit; with an odd multiplier there is no
-- preperiod, with an even one the period is 1 and the preperiod at most the width; of a prime-modulus model the period is
-- 2147483646.
pub record OrbitPromise (g : Generator) (reply : OrbitReply) : Type 0 where
  pub equals :
      reply ≡
      orbit_reply (refusal_of g) (kind_of g) (preperiod_of (element g) (modulus g)) (period_of (element g) (modulus g))
  pub meaning :
      reply.refusal ≡ 0 → IsOrbit (element g) reply.preperiod (carried reply.period reply.exponent)
  pub odd : reply.refusal ≡ 0 → g.multiplier % 2 ≡ 1 → reply.preperiod ≡ 0
  pub even :
      reply.refusal ≡ 0 → g.multiplier % 2 ≡ 0 →
      (reply.preperiod ≤ g.width) × (carried reply.period reply.exponent ≡ 1)
  pub prime : reply.refusal ≡ 0 → kind_of g ≡ kind.Prime → (reply.preperiod ≡ 0) × (reply.period ≡ 2147483646)
