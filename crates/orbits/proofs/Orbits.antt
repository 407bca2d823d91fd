-- The promise of the orbit call. Every accepted generator has an orbit, and only one; with an odd multiplier it has no preperiod,
-- with an even one the period 1; the period of a linear generator is a power of two, that of a prime-modulus model 2147483646.
use Rattle.generator.specs.declared.Kind.{Kind}
use Rattle.generator.specs.declared.Kind.TheVariants as kind
use Rattle.sequences.specs.declared.Orbit.{Orbit}
use Rattle.std.specs.Prelude.{Ok, Err}
use Rattle.std.proofs.Common.{◌≡◌, ℕ, suc, ◌+◌, ◌%◌, ◌^◌, ◌<◌, ◌≤◌, sym, refl, ap, ◌∙◌, ⊎_elim, le_trans, add-one, arith}
use Rattle.words.proofs.Congruence.{mod_two}
use Rattle.sequences.specs.Orbit.{IsOrbit, exponent_of, IsPower, OrbitIs, period_of, preperiod_of}
use Rattle.sequences.proofs.Orbits.{preperiod_is, period_is, exponent_is, orbit_is_never, orbit_only, orbit_room}
use Rattle.sequences.proofs.Isometric.{exponent, exponent_le, isometric_orbit}
use Rattle.sequences.proofs.Contracting.{rest_orbit, resting}
use Rattle.generator.specs.declared.Generator.{Generator}
use Rattle.refusals.specs.declared.Refusal.{Refusal}
use Rattle.generator.specs.Recurrence.{kind_of, modulus, element}
use Rattle.refusals.specs.Refusals.{number_of}
use Rattle.generator.specs.Check.{refusal_of}
use Rattle.generator.specs.Linear.{Linear}
use Rattle.generator.specs.Prime.{Prime}
use Rattle.generator.proofs.Elements.{element_follows}
use Rattle.refusals.proofs.Replies.{number_suc, number_nonzero}
use Rattle.orbits.specs.declared.OrbitAnswer.TheVariants as answer
use Rattle.orbits.specs.Orbit.{orbit_reply, plain_orbit, OrbitPromise}
use Rattle.linear_orbits.proofs.Elements.{reduced, isometric, contracting}
use Rattle.orbits.proofs.Primes.{prime_orbit, prime_is}
use Rattle.generator.proofs.Refusals.{accepted_kind, prime_width}
use Rattle.linear_orbits.proofs.LinearOrbits.{linear_has_orbit}

-- every accepted generator has an orbit
pub has_orbit : (g : Generator) → refusal_of g ≡ 0 → (o : Orbit) × OrbitIs (element g) (modulus g) o
has_orbit g z = by_kind (kind_of g) refl
  where
    by_kind : (k : Kind) → kind_of g ≡ k → (o : Orbit) × OrbitIs (element g) (modulus g) o
    by_kind kind.Linear q = linear_has_orbit (accepted_kind g q z)
    by_kind kind.Prime q = (record { preperiod = 0; last = 2147483645 }, prime_is (accepted_kind g q z))

-- and with an odd multiplier one without a preperiod, as 16807 is
pub odd_has_orbit : (g : Generator) → refusal_of g ≡ 0 → g.multiplier % 2 ≡ 1 → (P : ℕ) × IsOrbit (element g) 0 P
odd_has_orbit g z p = by_kind (kind_of g) refl
  where
    by_kind : (k : Kind) → kind_of g ≡ k → (P : ℕ) × IsOrbit (element g) 0 P
    by_kind kind.Linear q =
        let lin = accepted_kind g q z in
        (2 ^ exponent (element g) g.width, isometric_orbit (isometric lin p) (reduced lin))
    by_kind kind.Prime q = (2147483646, prime_orbit (accepted_kind g q z))

-- a number that no index below the modulus yields is never yielded
pub below_never : (g : Generator) → refusal_of g ≡ 0 → {y : ℕ} → ((i : ℕ) → i < modulus g → element g i ≡ y → ⊥) →
    (i : ℕ) → element g i ≡ y → ⊥
below_never g z d = orbit_is_never (has_orbit g z).1 (element_follows g) d

-- What is known of the orbit in hand, by the kind.
module _ (g : Generator) {o : Orbit} (is : OrbitIs (element g) (modulus g) o) where
  pub orbit_power : Linear g → IsPower (suc o.last)
  orbit_power lin = ⊎_elim even odd (mod_two g.multiplier)
    where
      even : g.multiplier % 2 ≡ 0 → IsPower (suc o.last)
      even p =
          let r = resting (contracting lin p) (reduced lin) in
          record {
            exponent = 0;
            small = omega arith;
            power = (orbit_only is.orbit (rest_orbit (contracting lin p) (reduced lin) r.1).1).1;
          }

      odd : g.multiplier % 2 ≡ 1 → IsPower (suc o.last)
      odd p =
          record {
            exponent = exponent (element g) g.width;
            small = le_trans (exponent_le (element g) g.width) lin.width_high;
            power = (orbit_only is.orbit (isometric_orbit (isometric lin p) (reduced lin))).1;
          }

  orbit_odd : refusal_of g ≡ 0 → g.multiplier % 2 ≡ 1 → o.preperiod ≡ 0
  orbit_odd z p = (orbit_only is.orbit (odd_has_orbit g z p).1).0

  orbit_even : Linear g → g.multiplier % 2 ≡ 0 → (o.preperiod ≤ g.width) × (suc o.last ≡ 1)
  orbit_even lin p =
      let r = resting (contracting lin p) (reduced lin) in
      let e = rest_orbit (contracting lin p) (reduced lin) r.1 in
      let only = orbit_only is.orbit e.1 in (omega (arith, only.0, e.0), only.1)

  pub prime_last : Prime g → (o.preperiod ≡ 0) × (o.last ≡ 2147483645)
  prime_last v = let only = orbit_only is.orbit (prime_orbit v) in (only.0, omega (arith, only.1))

-- The promise of the call.
pub orbit_refused : (g : Generator) (x : Refusal) → number_of x ≡ refusal_of g → OrbitPromise g (plain_orbit (Err x))
orbit_refused g x e =
    record {
      equals = let k = number_suc x in rw (← e, k.1);
      meaning = λ z. absurd (number_nonzero x z);
      odd = λ z. absurd (number_nonzero x z);
      even = λ z. absurd (number_nonzero x z);
      prime = λ z. absurd (number_nonzero x z);
    }

module _ (g : Generator) {o : Orbit} (z : refusal_of g ≡ 0) (is : OrbitIs (element g) (modulus g) o) where
  -- the definitions find the orbit in hand
  defined : {k : Kind} → kind_of g ≡ k →
      orbit_reply (refusal_of g) (kind_of g) (preperiod_of (element g) (modulus g)) (period_of (element g) (modulus g))
      ≡ orbit_reply 0 k o.preperiod (suc o.last)
  defined q = rw (z, q, preperiod_is is.orbit (orbit_room is), period_is is.orbit (orbit_room is))

  pub orbit_linear : {e : ℕ} → kind_of g ≡ kind.Linear → e ≡ exponent_of (suc o.last) →
      OrbitPromise g (plain_orbit (Ok (answer.Orbit o.preperiod e)))
  orbit_linear {e} q h =
      rw h
      (record {
        equals = sym (defined q);
        meaning = λ r. rw exact is.orbit;
        odd = λ r p. orbit_odd g is z p;
        even = λ r p. let a = orbit_even g is lin p in (a.0, rw exact a.1);
        prime = λ r k. absurd (omega (arith, prime_width g k, lin.width_low));
      })
    where
      lin : Linear g
      lin = accepted_kind g q z

      power : IsPower (suc o.last)
      power = orbit_power g is lin

      exact : 2 ^ exponent_of (suc o.last) ≡ suc o.last
      exact = ap (λ (P : ℕ). 2 ^ exponent_of P) power.power ∙ ap (λ (n : ℕ). 2 ^ n) (exponent_is power.exponent power.small) ∙ sym power.power

  pub orbit_prime : kind_of g ≡ kind.Prime → OrbitPromise g (plain_orbit (Ok (answer.Period o.preperiod (o.last + 1))))
  orbit_prime q =
      rw (add-one o.last)
      (record {
        equals = sym (defined q);
        meaning = λ r. is.orbit;
        odd = λ r p. orbit_odd g is z p;
        even = λ r p. absurd (omega (arith, p, v.multiplier));
        prime = λ r k. (last.0, omega (arith, last.1));
      })
    where
      v : Prime g
      v = accepted_kind g q z

      last : (o.preperiod ≡ 0) × (o.last ≡ 2147483645)
      last = prime_last g is v
