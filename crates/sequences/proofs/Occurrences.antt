-- All indices of a number, in any sequence with any preperiod t and any period P in which equal elements have equal
-- successors. Let k be the least one. Before t nothing comes again, so k is the only one if it lies there. From t on elements
-- are equal exactly at indices that are congruent modulo P, so the others are k plus the multiples of P. And the next index
-- that the definition of the return finds is there too, or there is none. Where P is 1, one element more tells which.
use mathlib.Core.Path.{◌≡◌, refl, sym, ap, ◌∙◌}
use mathlib.Core.Logic.{◌↔◌, inl, inr, by_cases}
use Prim.Native.Nat.{ℕ, suc, ◌+◌, ◌-◌, ◌*◌, ◌/◌, ◌≤◌, ◌<◌}
use native.Mathlib.Nat.{div-add-mod', zero-mod, le_refl, lt_of_not-le}
use native.Mathlib.Decide.{ℕ_discrete, dec_le}
use native.Mathlib.Omega.{arith}
use Rattle.words.proofs.Congruence.{
  Congruent,
  from_multiples,
  same_refl,
  same_sym,
  same_regroup,
  same_add_cancel,
}
use Rattle.sequences.specs.Index.{Located, Absent}
use Rattle.sequences.specs.Orbit.{return_less_one, preperiod_of, period_of, IsOrbit}
use Rattle.sequences.specs.Occurrences.{AllIndices, Alone, Recurring}
use Rattle.sequences.proofs.IndexOf.{located_least, absent_least}
use Rattle.sequences.proofs.Orbits.{Follows, congruent_equal, equal_congruent, orbit_value, orbit_only, return_from, no_return, preperiod_is, period_is}

-- Before the preperiod.
module _ {x : ℕ → ℕ} {y bound k : ℕ} (a : Alone x y bound k) where
  alone_only : (i : ℕ) → (x i ≡ y) ↔ (i ≡ k)
  alone_only i = (λ e. only e, λ e. ap x e ∙ a.located.yields)
    where
      only : x i ≡ y → i ≡ k
      only e =
          by_cases (ℕ_discrete i k) (λ q. q)
          (λ d.
          absurd
          (a.orbit.first k i a.before (omega (arith, a.located.first i e)) (e ∙ sym a.located.yields)))

  pub alone_all : (every : ℕ) → AllIndices x y 1 k 0 every
  alone_all every =
      record { least = located_least a.located; going_on = inr refl; once = λ f r. alone_only; again = λ f r. absurd (omega arith) }

  pub alone_return : return_less_one x bound k ≡ bound
  alone_return = no_return a.orbit a.room k a.before

  pub alone_before : k < preperiod_of x bound
  alone_before = rw (preperiod_is a.orbit a.room) a.before

-- From the preperiod on.
module _ {x : ℕ → ℕ} {y bound k P : ℕ} (r : Recurring x y bound k P) where
  module _ (f : Follows x) where
    recurring_exactly : (i : ℕ) → (x i ≡ y) ↔ ((t : ℕ) × (i ≡ k + t * P))
    recurring_exactly i = (there, back)
      where
        there : x i ≡ y → (t : ℕ) × (i ≡ k + t * P)
        there e =
            let l : k ≤ i = r.located.first i e in
            let d = i - k in
            let c : Congruent P i k = same_sym (equal_congruent f r.orbit r.reached l (r.located.yields ∙ sym e)) in
            let z : Congruent P d 0 = same_add_cancel (same_regroup c (omega arith) (omega arith)) (same_refl P k) in
            (d / P, omega (arith, z.same, zero-mod P, div-add-mod' d P))

        back : (t : ℕ) × (i ≡ k + t * P) → x i ≡ y
        back m =
            ap x m.1
            ∙ congruent_equal f r.orbit (omega (arith, r.reached)) r.reached (from_multiples 0 m.0 (omega arith))
            ∙ r.located.yields

    pub recurring_all : AllIndices x y 1 k 1 P
    recurring_all =
        record {
          least = located_least r.located;
          going_on = inl refl;
          once = λ q z. absurd (omega arith);
          again = λ q z. recurring_exactly;
        }

    pub recurring_return : return_less_one x bound k ≡ P - 1
    recurring_return = return_from r.orbit r.room f k r.reached

  pub recurring_period : period_of x bound ≡ P
  recurring_period = period_is r.orbit r.room

-- No index at all.
pub absent_all : {x : ℕ → ℕ} {y : ℕ} (every : ℕ) → Absent x y → AllIndices x y 0 0 0 every
absent_all every h =
    record {
      least = absent_least h;
      going_on = inr refl;
      once = λ f r. absurd (omega arith);
      again = λ f r. absurd (omega arith);
    }

-- Where there is no preperiod, no index is the only one, and the least one lies below the period.
module _ {x : ℕ → ℕ} {P : ℕ} (o : IsOrbit x 0 P) {y bound : ℕ} where
  pub alone_nowhere : {k : ℕ} → Alone x y bound k → ⊥
  alone_nowhere a = omega (arith, a.before, (orbit_only a.orbit o).0)

  pub recurring_located : {k Q : ℕ} → Follows x → Recurring x y bound k Q → (Q ≡ P) × Located x y Q k
  recurring_located {k} {Q} f r = (
    (orbit_only r.orbit o).1,
    record {
      below =
          let v = orbit_value f r.orbit k in
          omega (
            arith,
            v.below,
            r.located.first v.index (v.yields ∙ r.located.yields),
            (orbit_only r.orbit o).0,
          );
      yields = r.located.yields;
      first = r.located.first;
    },
  )

-- Where the period is 1, what comes again stays: the next element tells how it goes on.
module _ {x : ℕ → ℕ} {t y bound k : ℕ} (o : IsOrbit x t 1) (room : t < bound) (h : Located x y bound k) where
  pub stays_recurring : x (suc k) ≡ y → Recurring x y bound k 1
  stays_recurring e =
      record {
        located = h;
        preperiod = t;
        orbit = o;
        room = omega arith;
        reached =
            elim (dec_le t k) [
              | yes l ↦ l
              | no f ↦ absurd (o.first k (suc k) (lt_of_not-le f) (le_refl _) (e ∙ sym h.yields))
            ];
      }

  pub moves_alone : Follows x → (x (suc k) ≡ y → ⊥) → Alone x y bound k
  moves_alone f d =
      record {
        located = h;
        preperiod = t;
        period = 1;
        orbit = o;
        room = omega arith;
        before = elim (dec_le t k) [ yes l ↦ absurd (d (stays l)) | no b ↦ lt_of_not-le b ];
      }
    where
      stays : t ≤ k → x (suc k) ≡ y
      stays l = congruent_equal f o (omega arith) l (from_multiples 0 1 (omega arith)) ∙ h.yields
