-- The indices at which an isometric sequence x agrees with a number y, from the lowest bit place up. By the period law those
-- that agree in m places are all that are congruent to one k modulo 2 ^ e, the period in m places. One place further each of
-- two tests has two ways out: does x return after 2 ^ e steps there too, or only after twice as many? Does x k agree with y
-- there too? Only if it returns and does not agree is there no index at all; otherwise k or k + 2 ^ e goes on. What a search
-- hands back, `Settles`, is that for the places that it came to, and the index, the orbit or "never" is read off it.
--   matched_start                     before the first place
--   matched_exponent                  the period is at most 2 ^ m
--   matched_returns, matches          x returns after the period; the indices that agree in m places
--   stays_agrees, stays_differs,
--   doubles_agrees, doubles_differs   the four ways at the next place
--   matched_settles                   what is handed back
--   settles_never, settles_found      y is in x at no index; its least index
--   settles_orbit, settles_first      the orbit; all places are settled where y is the first element
use mathlib.Core.Path.{◌≡◌, refl, subst}
use mathlib.Core.Logic.{◌↔◌}
use Prim.Native.Nat.{ℕ, suc, ◌+◌, ◌^◌, ◌≤◌, ◌<◌}
use native.Mathlib.Nat.{add-zero, le_refl, le_of_lt, le_trans, le_antisymm, lt_of_lt_of_le, lt_of_not-le}
use native.Mathlib.Decide.{dec_le}
use native.Mathlib.Omega.{arith}
use lib.Pow.{pow_pos, pow_mono}
use Rattle.words.proofs.Congruence.{Congruent, same_refl, same_of_eq, same_regroup, same_add, same_add_cancel}
use Rattle.sequences.specs.Index.{Located, Absent}
use Rattle.sequences.specs.Orbit.{IsOrbit}
use Rattle.sequences.specs.Places.{Settles}
use Rattle.sequences.proofs.Agreement.{
  Agree,
  Reduced,
  agree_of_eq,
  agree_sym,
  agree_trans,
  agree_lower,
  agree_zero,
  agree_below,
  agree_next,
  agree_least,
  reduced_eq,
  two_lifts,
}
use Rattle.sequences.proofs.Isometric.{
  Isometric,
  Periodic,
  shift,
  exponent,
  exponent_le,
  exponent_stays,
  exponent_doubles,
  period_law,
}
use Rattle.sequences.proofs.Orbits.{return_orbit}

-- m places are settled, 2 ^ e is the period in them, and k is the least index whose
-- element agrees with y in them
pub record Matched (x : ℕ → ℕ) (y m e k : ℕ) : Type 0 where
  pub period_exponent : exponent x m ≡ e
  pub below : k < 2 ^ e
  pub agrees : Agree m (x k) y

-- no element agrees with y in m places
pub record Unmatched (x : ℕ → ℕ) (y m : ℕ) : Type 0 where
  pub none : (i : ℕ) → Agree m (x i) y → ⊥

-- before the first place
pub matched_start : (x : ℕ → ℕ) (y : ℕ) → Matched x y 0 0 0
matched_start x y =
    record { period_exponent = unfold exponent in refl; below = pow_pos 0; agrees = agree_zero (x 0) y }

-- the period is at most 2 ^ m
pub matched_exponent : {x : ℕ → ℕ} {y m e k : ℕ} → Matched x y m e k → e ≤ m
matched_exponent {x} {m = m} s = omega (arith, exponent_le x m, s.period_exponent)

module _ {n : ℕ} {x : ℕ → ℕ} (iso : Isometric n x) {y m e k : ℕ} (l : m ≤ n) (s : Matched x y m e k) where
  periodic : Periodic x m e
  periodic = period_law iso m l s.period_exponent

  -- x returns after 2 ^ e steps
  pub matched_returns : Agree m (x (k + 2 ^ e)) (x k)
  matched_returns = (periodic.law (k + 2 ^ e) k).1 (agree_next e k)

  -- the indices that agree are those congruent to k modulo 2 ^ e
  matches : (i : ℕ) → Agree m (x i) y ↔ Agree e i k
  matches i = (
    λ a. (periodic.law i k).0 (agree_trans a (agree_sym s.agrees)),
    λ a. agree_trans ((periodic.law i k).1 a) s.agrees,
  )

  -- what is handed back, if these are all places or no element agrees in one more
  pub matched_settles : {limit : ℕ} → m ≤ limit → (m < limit → Unmatched x y (suc m)) → Settles x y limit m k e
  matched_settles h u =
      record {
        within = h;
        exponent_within = matched_exponent s;
        below = s.below;
        exactly = λ i. (λ a. ((matches i).0 a).places, λ a. (matches i).1 (record { places = a }));
        stops = λ f. (u f).none;
      }

-- The next place. Two tests, four ways.
module _ {n : ℕ} {x : ℕ → ℕ} (iso : Isometric n x) {y m e k : ℕ} (l : m < n) (s : Matched x y m e k) where
  -- same period, k agrees: nothing changes
  pub stays_agrees : Agree (suc m) (x (k + 2 ^ e)) (x k) → Agree (suc m) (x k) y → Matched x y (suc m) e k
  stays_agrees h a =
      record { period_exponent = exponent_stays iso k l s.period_exponent h; below = s.below; agrees = a }

  -- twice the period, k agrees: k stays
  pub doubles_agrees : (Agree (suc m) (x (k + 2 ^ e)) (x k) → ⊥) → Agree (suc m) (x k) y → Matched x y (suc m) (suc e) k
  doubles_agrees d a =
      record { period_exponent = exponent_doubles iso k l s.period_exponent d; below = omega arith; agrees = a }

  -- twice the period, k differs: the element 2 ^ e further on agrees, by two lifts
  pub doubles_differs : (Agree (suc m) (x (k + 2 ^ e)) (x k) → ⊥) → (Agree (suc m) (x k) y → ⊥) →
      Matched x y (suc m) (suc e) (k + 2 ^ e)
  doubles_differs d b =
      record {
        period_exponent = exponent_doubles iso k l s.period_exponent d;
        below = omega arith;
        agrees =
            two_lifts (record { agree = matched_returns iso (le_of_lt l) s; differ = d })
            (record { agree = s.agrees; differ = b });
      }

  -- same period, k differs: an index that agrees would be congruent to k, and then k would agree as well
  pub stays_differs : Agree (suc m) (x (k + 2 ^ e)) (x k) → (Agree (suc m) (x k) y → ⊥) → Unmatched x y (suc m)
  stays_differs h b = record { none = λ i a. b (agree_trans (agree_sym (equal i a)) a) }
    where
      equal : (i : ℕ) → Agree (suc m) (x i) y → Agree (suc m) (x i) (x k)
      equal i a =
          ((period_law iso (suc m) l (exponent_stays iso k l s.period_exponent h)).law i k).1
          ((matches iso (le_of_lt l) s i).0 (agree_lower m (omega arith) a))

-- What is read off: the least index of y or that it has none, and the orbit.
module _ {n : ℕ} {x : ℕ → ℕ} {y p k e : ℕ} (s : Settles x y n p k e) where
  pub settles_never : p < n → Absent x y
  settles_never l = record { none = λ i q. s.stops l i (agree_of_eq (suc p) q) }

  module _ (l : n ≤ p) where
    whole : p ≡ n
    whole = le_antisymm s.within l

    exactly : (i : ℕ) → Agree n (x i) y ↔ Congruent (2 ^ e) i k
    exactly = subst (λ (m : ℕ). (i : ℕ) → Agree m (x i) y ↔ Congruent (2 ^ e) i k) whole s.exactly

    pub settles_found : Reduced n x → y < 2 ^ n → Located x y (2 ^ n) k
    settles_found red h =
        record {
          below = lt_of_lt_of_le s.below (pow_mono (le_trans s.exponent_within s.within));
          yields = agree_below ((exactly k).1 (same_refl (2 ^ e) k)) (red.below k) h;
          first = λ i q. agree_least (record { places = (exactly i).0 (agree_of_eq n q) }) s.below;
        }

    -- the orbit, whatever number was sought: x is back at x 0 after i steps exactly when it is back at x k, and so at y
    pub settles_orbit : Isometric n x → Reduced n x → (e ≤ n) × IsOrbit x 0 (2 ^ e)
    settles_orbit iso red =
        (le_trans s.exponent_within s.within, return_orbit (pow_pos e) (λ i. (there i, again i)))
      where
        at_k : Agree n (x (k + 0)) y
        at_k = (exactly (k + 0)).1 (same_of_eq (2 ^ e) (add-zero k))

        there : (i : ℕ) → x i ≡ x 0 → Congruent (2 ^ e) i 0
        there i q =
            let a = agree_trans ((shift iso n k i 0 (le_refl n)).0 (agree_of_eq n q)) at_k in
            let c : Congruent (2 ^ e) (i + k) (0 + k) = same_regroup ((exactly (k + i)).0 a) (omega arith) (omega arith) in
            same_add_cancel c (same_refl (2 ^ e) k)

        again : (i : ℕ) → Congruent (2 ^ e) i 0 → x i ≡ x 0
        again i c =
            let a = (exactly (k + i)).1 (same_regroup (same_add c (same_refl (2 ^ e) k)) (omega arith) (omega arith)) in
            reduced_eq red i 0 ((shift iso n k i 0 (le_refl n)).1 (agree_trans a (agree_sym at_k)))

-- all places are settled where the first element itself was sought
pub settles_first : {n : ℕ} {x : ℕ → ℕ} {y p k e : ℕ} → x 0 ≡ y → Settles x y n p k e → n ≤ p
settles_first {n} {p = p} first s =
    elim (dec_le n p) [ yes l ↦ l | no f ↦ absurd ((settles_never s (lt_of_not-le f)).none 0 first) ]
