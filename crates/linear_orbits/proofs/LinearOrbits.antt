-- The orbit of a linear generator: with an odd multiplier it is periodic from the start, with an even one it comes to rest.
-- Either way there is room for it below the modulus.
use Rattle.std.proofs.Common.{◌≡◌, ℕ, suc, ◌+◌, ◌-◌, ◌/◌, ◌%◌, ◌^◌, ◌<◌, ◌≤◌, sym, ap, ◌∙◌, subst, ⊎_elim, le_trans, le_refl, le_of_lt, arith, pow_pos, pow_mono, min, lt_of_not-le}
use native.Mathlib.Decide.{dec_le}
use Rattle.std.proofs.lemmas.Grind.{div_ceil_times}
use Rattle.std.proofs.Math.Nat.{div-eq_of_lt-le}
use Rattle.words.specs.Alpha.{Alpha, FirstDifference}
use Rattle.words.proofs.Congruence.{same_sym, same_trans, same_lower, mod_two}
use Rattle.sequences.specs.Orbit.{IsOrbit, OrbitIs}
use Rattle.sequences.specs.Occurrences.{low}
use Rattle.sequences.specs.Places.{Agree}
use Rattle.sequences.proofs.Agreement.{reduced_eq}
use Rattle.sequences.proofs.Isometric.{exponent, exponent_le, isometric_orbit}
use Rattle.sequences.proofs.Contracting.{rest_orbit, resting, Scaling, scaling_contracting, scaled_rests}
use Rattle.generator.specs.declared.Generator.{Generator}
use Rattle.affine.specs.declared.Affine.{Affine}
use Rattle.generator.specs.Recurrence.{modulus, element}
use Rattle.generator.specs.Linear.{Linear, once_of}
use Rattle.affine.specs.Affine.{apply}
use Rattle.generator.proofs.Refusals.{modulus_linear}
use Rattle.generator.proofs.Elements.{element_start}
use Rattle.linear_orbits.proofs.Elements.{reduced, isometric, one_held, scaling, contracting}
use Rattle.sequences.proofs.Orbits.{Follows, orbit_only}
use Rattle.sequences.proofs.LowPlaces.{contracting_follows, isometric_follows, low_isometric, low_reduced, low_rest}
use Rattle.words.proofs.PowersOfTwo.{lt_two_pow}
use Rattle.sequences.specs.declared.Orbit.{Orbit}

-- a quotient rounded up, in two ways
rounded_up : (a : ℕ) {b : ℕ} → 0 < b → (a + b - 1) / b ≡ a / b + min 1 (a % b)
rounded_up a {b} h =
    let t = div_ceil_times a b h in div-eq_of_lt-le b (omega (arith, t.1)) (omega (arith, t.0))

-- with an even multiplier: element 1 and the seed first differ at a place w below n, or not at all
module _ {g : Generator} {once : Affine} {v w next : ℕ} (pre : (Linear g) × (g.multiplier % 2 ≡ 0))
    (α : Alpha g.multiplier v) (eo : once ≡ once_of g) (en : next ≡ apply once g.seed % 2 ^ 64)
    (d : FirstDifference next g.seed w) where
  sc : Scaling g.width v (element g)
  sc = scaling pre.0 pre.1 α

  -- element 1 and the seed agree in the places up to w, and in no more
  one_agrees : {m : ℕ} → m ≤ g.width → m ≤ w → Agree m (element g 1) (element g 0)
  one_agrees {m} l h =
      record {
        places =
            same_trans (same_sym (same_lower m l (one_held pre.0 eo en)))
            (record { same = d.below m h ∙ ap (λ (u : ℕ). u % 2 ^ m) (sym (element_start g)) });
      }

  one_reach : {m : ℕ} → m ≤ g.width → Agree m (element g 1) (element g 0) → m ≤ w
  one_reach {m} l a =
      d.above m (le_trans l pre.0.width_high)
      ((same_trans (same_lower m l (one_held pre.0 eo en)) a.places).same ∙ ap (λ (u : ℕ). u % 2 ^ m) (element_start g))

  pub resting_orbit : g.width ≤ w → (0 ≤ g.width) × IsOrbit (element g) 0 1
  resting_orbit l =
      rest_orbit (scaling_contracting sc) (reduced pre.0)
      (record {
        rest = reduced_eq (reduced pre.0) 1 0 (one_agrees (le_refl g.width) l);
        moves = λ i h. absurd (omega arith);
      })

  pub moving_orbit : w < g.width → ((g.width - w + v - 1) / v ≤ g.width) × IsOrbit (element g) ((g.width - w + v - 1) / v) 1
  moving_orbit l =
      rest_orbit (scaling_contracting sc) (reduced pre.0)
      (scaled_rests sc l
      (record { agree = one_agrees (le_of_lt l) (le_refl w); differ = λ a. omega (arith, one_reach l a) })
      (reduced pre.0))

  -- at rest after the places left to agree, over v, rounded up
  pub even_orbit : {d t : ℕ} → d ≡ g.width - w → t ≡ d / v + min 1 (d % v) → (t ≤ g.width) × IsOrbit (element g) t 1
  even_orbit {d} {t} left over = elim (dec_le g.width w) [ yes l ↦ at_rest l | no f ↦ moves (lt_of_not-le f) ]
    where
      e : t ≡ (g.width - w) / v + min 1 ((g.width - w) % v)
      e = over ∙ ap (λ (k : ℕ). k / v + min 1 (k % v)) left

      up : (g.width - w + v - 1) / v ≡ t
      up = rounded_up (g.width - w) sc.positive ∙ sym e

      moves : w < g.width → (t ≤ g.width) × IsOrbit (element g) t 1
      moves l = rw (sym up) (moving_orbit l)

      at_rest : g.width ≤ w → (t ≤ g.width) × IsOrbit (element g) t 1
      at_rest l = let z : t ≡ 0 = e ∙ rw (let q : g.width - w ≡ 0 = omega arith in q) (omega arith) in rw z (resting_orbit l)

-- room below the modulus for both
module _ {g : Generator} (lin : Linear g) where
  even_room : {t : ℕ} → t ≤ g.width → t + 1 ≤ modulus g
  even_room l = rw (modulus_linear g lin.kind) (omega (arith, lt_two_pow g.width))

  pub places_room : {m : ℕ} → m ≤ g.width → 2 ^ m ≤ modulus g
  places_room l = rw (modulus_linear g lin.kind) (pow_mono l)

  pub even_is : {t : ℕ} → (t ≤ g.width) × IsOrbit (element g) t 1 → OrbitIs (element g) (modulus g) (record { preperiod = t; last = 0 })
  even_is o = record { orbit = o.1; within = omega (arith, even_room o.0) }

  pub odd_is : {e last : ℕ} → (e ≤ g.width) × IsOrbit (element g) 0 (2 ^ e) → last + 1 ≡ 2 ^ e →
      OrbitIs (element g) (modulus g) (record { preperiod = 0; last = last })
  odd_is {e} {last} o q =
      record {
        orbit = subst (IsOrbit (element g) 0) (let s : 2 ^ e ≡ suc last = omega (arith, q) in s) o.1;
        within = omega (arith, places_room o.0);
      }

  -- there is one for every multiplier
  pub linear_has_orbit : (o : Orbit) × OrbitIs (element g) (modulus g) o
  linear_has_orbit = ⊎_elim even odd (mod_two g.multiplier)
    where
      even : g.multiplier % 2 ≡ 0 → (o : Orbit) × OrbitIs (element g) (modulus g) o
      even p =
          let r = resting (contracting lin p) (reduced lin) in
          (record { preperiod = r.0; last = 0 }, even_is (rest_orbit (contracting lin p) (reduced lin) r.1))

      odd : g.multiplier % 2 ≡ 1 → (o : Orbit) × OrbitIs (element g) (modulus g) o
      odd p =
          let e = exponent (element g) g.width in (
            record { preperiod = 0; last = 2 ^ e - 1 },
            odd_is (exponent_le (element g) g.width, isometric_orbit (isometric lin p) (reduced lin))
                (omega (arith, pow_pos e)),
          )

-- The low places: an odd multiplier has no preperiod in any number of them, an even one the period 1. So the period is a power of
-- two, and equal low places have equal successors.
module _ {g : Generator} (m : ℕ) (lin : Linear g) (l : m ≤ g.width) where
  pub low_odd_orbit : g.multiplier % 2 ≡ 1 → (e : ℕ) × (e ≤ m) × IsOrbit (low m (element g)) 0 (2 ^ e)
  low_odd_orbit p =
      let x = low m (element g) in
      (exponent x m, exponent_le x m, isometric_orbit (low_isometric m l (isometric lin p)) (low_reduced m (element g)))

  pub low_even_orbit : g.multiplier % 2 ≡ 0 → (t : ℕ) × ((t ≤ m) × IsOrbit (low m (element g)) t 1)
  low_even_orbit p = low_rest m l (contracting lin p)

  pub low_power : {t P : ℕ} → IsOrbit (low m (element g)) t P → (e : ℕ) × (e ≤ m) × (P ≡ 2 ^ e)
  low_power {t} {P} o = ⊎_elim even odd (mod_two g.multiplier)
    where
      even : g.multiplier % 2 ≡ 0 → (e : ℕ) × (e ≤ m) × (P ≡ 2 ^ e)
      even p = (0, omega arith, (orbit_only o (low_even_orbit p).1.1).1)

      odd : g.multiplier % 2 ≡ 1 → (e : ℕ) × (e ≤ m) × (P ≡ 2 ^ e)
      odd p = let q = low_odd_orbit p in (q.0, q.1, (orbit_only o q.2).1)

  pub low_follows : Follows (low m (element g))
  low_follows =
      ⊎_elim (λ p. contracting_follows m l (contracting lin p)) (λ p. isometric_follows m l (isometric lin p))
      (mod_two g.multiplier)
