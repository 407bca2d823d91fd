-- A linear generator as a sequence: its elements have n places; with an odd multiplier it is isometric, since an odd
-- factor cancels; with the multiplier 2 ^ v times an odd number each step moves a difference v places up.
use Rattle.std.proofs.Common.{◌≡◌, ℕ, zero, suc, ◌+◌, ◌*◌, ◌%◌, ◌^◌, ◌<◌, ◌≤◌, ◌↔◌, le_refl, lt_of_lt_of_le, mod-lt, arith, pow_pos, pow_mono}
use mathlib.Core.Logic.{by_cases}
use native.Mathlib.Decide.{ℕ_discrete}
use Rattle.words.specs.Alpha.{Alpha}
use Rattle.words.proofs.Congruence.{
  Congruent,
  same_refl,
  same_sym,
  same_trans,
  same_of_eq,
  same_mod,
  same_result,
  same_add,
  same_scale,
  same_add_cancel,
  same_lower,
  odd_cancel,
}
use Rattle.words.proofs.Places.{trailing_alpha}
use Rattle.sequences.proofs.Agreement.{Reduced, agree_lower, agree_zero}
use Rattle.sequences.proofs.Isometric.{Isometric}
use Rattle.sequences.proofs.Contracting.{Contracting, Scaling, scaling_contracting}
use Rattle.generator.specs.declared.Generator.{Generator}
use Rattle.generator.specs.Recurrence.{element}
use Rattle.affine.specs.declared.Affine.{Affine}
use Rattle.generator.specs.Linear.{Linear, once_of}
use Rattle.affine.specs.Affine.{apply}
use Rattle.generator.proofs.Walking.{step_linear, next_once}
use Rattle.words.proofs.PowersOfTwo.{Split, split, split_places}

pub reduced : {g : Generator} → Linear g → Reduced g.width (element g)
unfolding element
reduced {g} v = record { below = below }
  where
    below : (i : ℕ) → element g i < 2 ^ g.width
    below zero = v.seed_below
    below (suc i) = rw (step_linear v (element g i)) (mod-lt _ (pow_pos g.width))

module _ {g : Generator} (v : Linear g) where
  -- a step, before its low bits are kept, agrees with the next element in all n places
  pub next_place : (m i : ℕ) → m ≤ g.width →
      Congruent (2 ^ m) (element g (suc i)) (g.multiplier * element g i + g.increment)
  unfolding element
  next_place m i l = same_lower m l (same_result _ (step_linear v (element g i)))

  -- between the elements' congruence and that of the next ones stands that of the products
  products : (m i j : ℕ) → m ≤ g.width →
      Congruent (2 ^ m) (element g (suc i)) (element g (suc j)) ↔
      Congruent (2 ^ m) (g.multiplier * element g i) (g.multiplier * element g j)
  products m i j l = (
    λ h.
        same_add_cancel (same_trans (same_sym (next_place m i l)) (same_trans h (next_place m j l)))
        (same_refl _ g.increment),
    λ h.
        same_trans (next_place m i l)
        (same_trans (same_add h (same_refl _ g.increment)) (same_sym (next_place m j l))),
  )

pub isometric : {g : Generator} → Linear g → g.multiplier % 2 ≡ 1 → Isometric g.width (element g)
isometric {g} v odd =
    record {
      step =
          λ m i j l. (
            λ h. record { places = (products v m i j l).1 (same_scale g.multiplier h.places) },
            λ h. record { places = odd_cancel g.multiplier odd m ((products v m i j l).0 h.places) },
          );
    }

-- the map of one step takes the seed to a number that stands for element 1
pub one_held : {g : Generator} {once : Affine} {next : ℕ} → Linear g → once ≡ once_of g →
    next ≡ apply once g.seed % 2 ^ 64 → Congruent (2 ^ g.width) next (element g 1)
unfolding element
one_held {g} {once} {next} v e h =
    same_trans (same_sym (same_mod (2 ^ g.width) next)) (same_of_eq _ (next_once g.seed v e h))

-- the multiplier 0: all elements but the first are equal
zero_places : {a : ℕ} → a ≡ 0 → (m u w : ℕ) → Congruent (2 ^ m) (a * u) (a * w)
zero_places {a} e m u w = same_of_eq _ (rw e (omega arith))

pub scaling : {g : Generator} {v : ℕ} → Linear g → g.multiplier % 2 ≡ 0 → Alpha g.multiplier v → Scaling g.width v (element g)
scaling {g} {v} lin even α = by_cases (ℕ_discrete g.multiplier 0) none some
  where
    a : ℕ
    a = g.multiplier

    none : a ≡ 0 → Scaling g.width v (element g)
    none e =
        record {
          positive = omega (arith, α.at_zero e);
          exact =
              λ m i j l. (
                λ h. record { places = (products lin (m + v) i j l).1 (zero_places e (m + v) _ _) },
                λ h. agree_lower m (omega (arith, α.at_zero e, lin.width_high)) (agree_zero _ _),
              );
          full = λ m i j l h. record { places = (products lin g.width i j (le_refl _)).1 (zero_places e g.width _ _) };
        }

    some : (a ≡ 0 → ⊥) → Scaling g.width v (element g)
    some nonzero =
        record {
          positive = positive v α;
          exact =
              λ m i j l. (
                λ h. record { places = (products lin (m + v) i j l).1 ((split_places s m _ _).0 h.places) },
                λ h. record { places = (split_places s m _ _).1 ((products lin (m + v) i j l).0 h.places) },
              );
          full =
              λ m i j l h.
              record { places = (products lin g.width i j (le_refl _)).1 (same_lower g.width l ((split_places s m _ _).0 h.places)) };
        }
      where
        s : Split a v
        s = split α nonzero

        positive : (v : ℕ) → Alpha a v → 1 ≤ v
        positive zero β = absurd (β.exact nonzero even)
        positive (suc v) β = omega arith

-- so an even multiplier contracts
pub contracting : {g : Generator} → Linear g → g.multiplier % 2 ≡ 0 → Contracting g.width (element g)
contracting {g} v even =
    scaling_contracting
    (scaling v even (trailing_alpha g.multiplier (lt_of_lt_of_le v.multiplier_below (pow_mono v.width_high))))
