-- What two sequences have in common, whatever they are. The numbers that the definition counts are listed: each is new where it
-- is counted, so no two are the same, and a number that both have is counted at its first index in x. The meaning leaves one
-- count only, since two lists of the same different numbers are equally long. It does not tell the first sequence from the
-- second, so neither does the count. And a sequence has in common with itself all that it has.
use mathlib.Core.Path.{◌≡◌, refl, sym, ap, ◌∙◌}
use mathlib.Core.Bool.{Bool, true, false, not, true≢false, ◌&&◌}
use Prim.Native.Nat.{ℕ, ◌≤◌, ◌<◌}
use native.Mathlib.Nat.{le_antisymm}
use native.Mathlib.Omega.{arith}
use lib.Dec.{eqb}
use borrow.Author.Tests.{eq-eqb, eqb-true, eqb-false, ltb-true}
use Rattle.sequences.specs.Index.{index_of, occurs}
use Rattle.sequences.specs.Distinct.{count_of, is_new, distinct_of}
use Rattle.sequences.specs.Common.{common_of, Yields, Common}
use Rattle.sequences.proofs.Least.{least_least, least_below}
use Rattle.sequences.proofs.IndexOf.{occurs_at, occurs_nowhere}
use Rattle.sequences.proofs.Counted.{nth, nth_holds, nth_rises, nth_all, count_same, apart_within}

both_true : (a b : Bool) → (a && b) ≡ true → (a ≡ true) × (b ≡ true)
both_true true b e = (refl, e)
both_true false b e = absurd (true≢false (sym e))

module _ (x : ℕ → ℕ) where
  -- what occurs has an index, and the definition finds the first
  occurs_yields : (n y : ℕ) → occurs x n y ≡ true → Yields x n y
  unfolding occurs index_of
  occurs_yields n y e =
      let l = ltb-true (index_of x n y) n e in
      (index_of x n y, l, eqb-true _ _ ((least_least (λ i. eqb (x i) y) n).holds l))

  index_first : {n y : ℕ} → Yields x n y →
      (index_of x n y < n) × (x (index_of x n y) ≡ y) × ((j : ℕ) → j < index_of x n y → x j ≡ y → ⊥)
  unfolding index_of
  index_first {n} {y} h =
      let least = least_least (λ i. eqb (x i) y) n in
      let below : index_of x n y < n = omega (arith, h.1, least_below least h.0 (eq-eqb _ _ h.2)) in
      (below, eqb-true _ _ (least.holds below), λ j l. eqb-false _ _ (least.first j l))

  -- new is what no earlier index yields
  new_first : (i : ℕ) → is_new x i ≡ true → (j : ℕ) → j < i → x j ≡ x i → ⊥
  unfolding is_new
  new_first i e j l q = true≢false (sym e ∙ ap not (occurs_at x j l q))

  pub first_new : (i : ℕ) → ((j : ℕ) → j < i → x j ≡ x i → ⊥) → is_new x i ≡ true
  unfolding is_new
  first_new i h = ap not (occurs_nowhere x (x i) i h)

  pub again_old : (i j : ℕ) → j < i → x j ≡ x i → is_new x i ≡ false
  unfolding is_new
  again_old i j l q = ap not (occurs_at x j l q)

-- The list.
pub common_is : (x : ℕ → ℕ) (n : ℕ) (z : ℕ → ℕ) (m : ℕ) → Common x n z m (common_of x n z m)
unfolding common_of
common_is x n z m =
    record {
      list = λ k. x (nth both n k);
      different = λ i j l b e. new_first x (nth both n j) (held j b).0 (nth both n i) (nth_rises both n i j l b) e;
      exactly = λ y. (there y, back y);
    }
  where
    both : ℕ → Bool
    both i = is_new x i && occurs z m (x i)

    held : (k : ℕ) → k < count_of both n → (is_new x (nth both n k) ≡ true) × (occurs z m (x (nth both n k)) ≡ true)
    held k l = both_true _ _ (nth_holds both n k l).1

    there : (y : ℕ) → Yields (λ k. x (nth both n k)) (count_of both n) y → Yields x n y × Yields z m y
    there y h =
        let i = nth both n h.0 in
        let o = occurs_yields z m (x i) (held h.0 h.1).1 in
        ((i, (nth_holds both n h.0 h.1).0, h.2), (o.0, o.1, o.2 ∙ h.2))

    back : (y : ℕ) → Yields x n y × Yields z m y → Yields (λ k. x (nth both n k)) (count_of both n) y
    back y h =
        let f = index_first x h.0 in
        let new = first_new x (index_of x n y) (λ j l e. f.2 j l (e ∙ f.1)) in
        let in_z = occurs_at z h.1.0 h.1.1 (h.1.2 ∙ sym f.1) in
        let k = nth_all both n (index_of x n y) f.0 (rw (new, in_z) refl) in
        (k.0, k.1, ap x k.2 ∙ f.1)

-- The meaning leaves one count: where a number of one list stands in the other is different for different numbers.
common_within : {x z : ℕ → ℕ} {n m v w : ℕ} → Common x n z m v → Common x n z m w → v ≤ w
common_within {v = v} {w} a b =
    apart_within w place
    (record { different = λ i j l h e. a.different i j l h (sym (found i (omega arith)).1 ∙ ap b.list e ∙ (found j h).1) })
    (λ i l. (found i l).0)
  where
    place : ℕ → ℕ
    place i = index_of b.list w (a.list i)

    found : (i : ℕ) → i < v → (place i < w) × (b.list (place i) ≡ a.list i)
    found i l = let f = index_first b.list ((b.exactly _).1 ((a.exactly _).0 (i, l, refl))) in (f.0, f.1)

pub common_only : {x z : ℕ → ℕ} {n m v w : ℕ} → Common x n z m v → Common x n z m w → v ≡ w
common_only a b = le_antisymm (common_within a b) (common_within b a)

-- It is the same for the second sequence and the first.
swapped : {x z : ℕ → ℕ} {n m v : ℕ} → Common x n z m v → Common z m x n v
swapped c =
    record {
      list = c.list;
      different = c.different;
      exactly = λ y. (λ h. let b = (c.exactly y).0 h in (b.1, b.0), λ h. (c.exactly y).1 (h.1, h.0));
    }

pub common_swap : (x : ℕ → ℕ) (n : ℕ) (z : ℕ → ℕ) (m : ℕ) → common_of x n z m ≡ common_of z m x n
common_swap x n z m = common_only (common_is x n z m) (swapped (common_is z m x n))

-- With itself a sequence has in common all that it has.
pub common_self : (x : ℕ → ℕ) (n : ℕ) → common_of x n x n ≡ distinct_of x n
unfolding common_of distinct_of
common_self x n = count_same n (λ i l. same i l (is_new x i))
  where
    same : (i : ℕ) → i < n → (b : Bool) → (b && occurs x n (x i)) ≡ b
    same i l true = occurs_at x i l refl
    same i l false = refl
