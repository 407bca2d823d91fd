-- How many different values the first elements of a sequence have. Where the first v elements differ from one another and each
-- of the first n is one of them, what is new comes at the first v indices and at no other below n: so the definition counts v.
-- In a sequence with any preperiod t and any period P, in which equal elements have equal successors, the first t + P
-- elements differ and each later one is one of them: so v is the smaller of n and t + P. From an index s on, what is left of
-- the preperiod stands for t.
use mathlib.Core.Path.{◌≡◌, refl, sym, ap, ◌∙◌}
use mathlib.Core.Bool.{Bool, true, false, cond, not}
use mathlib.Core.Logic.{⊎_elim, by_cases}
use Prim.Native.Nat.{ℕ, zero, suc, ◌+◌, ◌-◌, ◌≤◌, ◌<◌, min}
use native.Mathlib.Nat.{add-suc, le_of_lt, lt_of_lt_of_le}
use native.Mathlib.Decide.{dec_lt}
use native.Mathlib.Omega.{arith}
use Rattle.words.proofs.Congruence.{same_sym, same_regroup}
use Rattle.sequences.specs.Orbit.{IsOrbit}
use Rattle.sequences.specs.Distinct.{count_of, is_new, distinct_of, Distinct}
use Rattle.sequences.proofs.IndexOf.{occurs_at, occurs_nowhere}
use Rattle.sequences.proofs.Orbits.{Follows, congruent_gap, equal_exactly, orbit_value, orbit_from}

-- a test that, of the numbers below n, holds at those below a limit and at no other
count_below : {p : ℕ → Bool} {limit : ℕ} (n : ℕ) → ((i : ℕ) → i < limit → p i ≡ true) →
    ((i : ℕ) → limit ≤ i → i < n → p i ≡ false) → count_of p n ≡ min n limit
unfolding count_of
count_below zero below above = omega arith
count_below {p} {limit} (suc n) below above =
    let e = count_below n below (λ i l b. above i l (omega arith)) in
    by_cases (dec_lt n limit) (λ l. rw (e, below n l) (omega arith))
    (λ l. rw (e, above n (omega arith) (omega arith)) (omega arith))

-- no test holds at more than n numbers below n
count_within : (p : ℕ → Bool) (n : ℕ) → count_of p n ≤ n
unfolding count_of
count_within p zero = omega arith
count_within p (suc n) = omega (arith, count_within p n, one (p n))
  where
    one : (b : Bool) → cond b 1 0 ≤ 1
    one true = omega arith
    one false = omega arith

pub distinct_within : (x : ℕ → ℕ) (n : ℕ) → distinct_of x n ≤ n
unfolding distinct_of
distinct_within x n = count_within (is_new x) n

-- The definition counts what the meaning says, in any sequence.
pub distinct_is : {x : ℕ → ℕ} {n v : ℕ} → Distinct x n v → distinct_of x n ≡ v
unfolding distinct_of is_new
distinct_is {x} {n} {v} d =
    count_below n
    (λ i l. ap not (occurs_nowhere x (x i) i (λ k b. d.different k i b l)))
    (λ i l b. let k = d.all i b in ap not (occurs_at x k.0 (lt_of_lt_of_le k.1 l) k.2))
    ∙ smaller
  where
    smaller : min n v ≡ v
    smaller = omega (arith, d.within)

-- so the meaning leaves one number only
pub distinct_only : {x : ℕ → ℕ} {n v w : ℕ} → Distinct x n v → Distinct x n w → v ≡ w
distinct_only a b = sym (distinct_is a) ∙ distinct_is b

-- By the orbit: the first t + P elements differ.
module _ {x : ℕ → ℕ} {t P : ℕ} (f : Follows x) (o : IsOrbit x t P) where
  all_different : (i j : ℕ) → i < j → j < t + P → x i ≡ x j → ⊥
  all_different i j l b e =
      ⊎_elim (λ q. omega arith)
      (λ h.
      omega
      (arith, h.0, congruent_gap {u = i} {d = j - i} (same_regroup (same_sym h.1) (omega arith) (omega arith)) (omega arith)))
      ((equal_exactly f o (le_of_lt l)).0 e)

  orbit_distinct : (n : ℕ) → Distinct x n (min n (t + P))
  orbit_distinct n =
      record {
        within = omega arith;
        different = λ i j l b. all_different i j l (omega arith);
        all =
            λ i l.
            let v = orbit_value f o i in
            by_cases (dec_lt i (t + P)) (λ b. (i, omega arith, refl))
            (λ b. (v.index, omega (arith, v.below), v.yields));
      }

-- From an index s on.
pub distinct_from : {x : ℕ → ℕ} {t P : ℕ} → Follows x → IsOrbit x t P → (s n : ℕ) →
    Distinct (λ i. x (s + i)) n (min n (t - s + P))
distinct_from {x} f o s = orbit_distinct follows (orbit_from f o s)
  where
    follows : Follows (λ i. x (s + i))
    follows = record { next = λ i j e. ap x (add-suc s i) ∙ f.next (s + i) (s + j) e ∙ ap x (sym (add-suc s j)) }
