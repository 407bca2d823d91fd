-- What a test counts can be listed, in rising order: the place of a number in the list is how many come before it. And a list
-- of different numbers below w is no longer than w: so two lists of the same numbers, each without repeats, are equally long.
use mathlib.Core.Path.{◌≡◌, refl, sym, ◌∙◌}
use mathlib.Core.Bool.{Bool, true, false, cond}
use mathlib.Core.Logic.{by_cases}
use Prim.Native.Nat.{ℕ, zero, suc, ◌≤◌, ◌<◌}
use native.Mathlib.Decide.{ℕ_discrete, dec_lt}
use native.Mathlib.Omega.{arith}
use lib.Dec.{eqb, ltb}
use borrow.Author.Tests.{eq-eqb, ne_eqb, lt-ltb, le-ltb}
use Rattle.sequences.specs.Distinct.{count_of}

-- the k-th number below n at which p holds, from 0 on
pub nth : (ℕ → Bool) → ℕ → ℕ → ℕ
nth p zero k = 0
nth p (suc n) k = cond (ltb k (count_of p n)) (nth p n k) n

module _ (p : ℕ → Bool) where
  -- below n it is that below n + 1 too; the last place is that of n
  nth_earlier : (n k : ℕ) → k < count_of p n → nth p (suc n) k ≡ nth p n k
  unfolding nth
  nth_earlier n k l = rw (lt-ltb k (count_of p n) l)

  nth_last : (n k : ℕ) → count_of p n ≤ k → nth p (suc n) k ≡ n
  unfolding nth
  nth_last n k l = rw (le-ltb k (count_of p n) l)

  -- one number more adds 1 or 0
  count_held : (n : ℕ) → p n ≡ true → count_of p (suc n) ≡ suc (count_of p n)
  unfolding count_of
  count_held n e = rw e (omega arith)

  count_not : (n : ℕ) → p n ≡ false → count_of p (suc n) ≡ count_of p n
  unfolding count_of
  count_not n e = rw e (omega arith)

  count_grows : (n : ℕ) → count_of p n ≤ count_of p (suc n)
  unfolding count_of
  count_grows n = omega arith

  -- a place that is new with n is the last, and p holds at n
  new_place : (n k : ℕ) → count_of p n ≤ k → k < count_of p (suc n) → (p n ≡ true) × (k ≡ count_of p n)
  new_place n k l b = go (p n) refl
    where
      go : (t : Bool) → p n ≡ t → (p n ≡ true) × (k ≡ count_of p n)
      go true e = (e, omega (arith, count_held n e))
      go false e = absurd (omega (arith, count_not n e))

  pub nth_holds : (n k : ℕ) → k < count_of p n → (nth p n k < n) × (p (nth p n k) ≡ true)
  unfolding count_of
  nth_holds zero k l = absurd (omega arith)
  nth_holds (suc n) k l =
      by_cases (dec_lt k (count_of p n))
      (λ b. let h = nth_holds n k b in rw (nth_earlier n k b) (omega (arith, h.0), h.1))
      (λ b. let q : count_of p n ≤ k = omega arith in rw (nth_last n k q) (omega arith, (new_place n k q l).0))

  pub nth_rises : (n i j : ℕ) → i < j → j < count_of p n → nth p n i < nth p n j
  unfolding count_of
  nth_rises zero i j h l = absurd (omega arith)
  nth_rises (suc n) i j h l =
      by_cases (dec_lt j (count_of p n))
      (λ b. rw (nth_earlier n j b, nth_earlier n i (omega arith)) (nth_rises n i j h b))
      (λ b.
      let q : count_of p n ≤ j = omega arith in
      let r : i < count_of p n = omega (arith, (new_place n j q l).1) in
      rw (nth_last n j q, nth_earlier n i r) (nth_holds n i r).0)

  pub nth_all : (n i : ℕ) → i < n → p i ≡ true → (k : ℕ) × (k < count_of p n) × (nth p n k ≡ i)
  nth_all zero i l e = absurd (omega arith)
  nth_all (suc n) i l e =
      by_cases (dec_lt i n)
      (λ b.
      let h = nth_all n i b e in
      (h.0, omega (arith, h.1, count_grows n), nth_earlier n h.0 h.1 ∙ h.2))
      (λ b.
      let q : i ≡ n = omega arith in
      let held : p n ≡ true = rw q at e in
      (count_of p n, omega (arith, count_held n held), nth_last n (count_of p n) (omega arith) ∙ sym q))

-- two tests that are the same below n
pub count_same : {p q : ℕ → Bool} (n : ℕ) → ((i : ℕ) → i < n → p i ≡ q i) → count_of p n ≡ count_of q n
unfolding count_of
count_same zero h = refl
count_same (suc n) h = rw (count_same n (λ i l. h i (omega arith)), h n (omega arith)) refl

-- no two of the first v are the same
pub record Apart (f : ℕ → ℕ) (v : ℕ) : Type 0 where
  pub different : (i j : ℕ) → i < j → j < v → f i ≡ f j → ⊥

-- Different numbers below w are at most w: where one of them is the last number below w, what came last takes its place.
pub apart_within : (w : ℕ) {v : ℕ} (f : ℕ → ℕ) → Apart f v → ((i : ℕ) → i < v → f i < w) → v ≤ w
apart_within zero {v} f a below = by_cases (dec_lt 0 v) (λ l. absurd (omega (arith, below 0 l))) (λ l. omega arith)
apart_within (suc w) {v = zero} f a below = omega arith
apart_within (suc w) {v = suc v} f a below =
    let l : v ≤ w = apart_within w moved moved_apart moved_below in omega arith
  where
    moved : ℕ → ℕ
    moved i = cond (eqb (f i) w) (f v) (f i)

    at_last : (i : ℕ) → f i ≡ w → moved i ≡ f v
    at_last i e = rw (eq-eqb (f i) w e)

    elsewhere : (i : ℕ) → (f i ≡ w → ⊥) → moved i ≡ f i
    elsewhere i d = rw (ne_eqb (f i) w d)

    moved_below : (i : ℕ) → i < v → moved i < w
    moved_below i l =
        by_cases (ℕ_discrete (f i) w)
        (λ e. rw (at_last i e) (not_last (f v) (below v (omega arith)) (λ q. a.different i v l (omega arith) (e ∙ sym q))))
        (λ d. rw (elsewhere i d) (not_last (f i) (below i (omega arith)) d))
      where
        not_last : (u : ℕ) → u < suc w → (u ≡ w → ⊥) → u < w
        not_last u b d = by_cases (dec_lt u w) (λ q. q) (λ q. absurd (d (omega arith)))

    moved_apart : Apart moved v
    moved_apart =
        record {
          different =
              λ i j l b e.
              by_cases (ℕ_discrete (f i) w)
              (λ p.
              by_cases (ℕ_discrete (f j) w) (λ q. a.different i j l (omega arith) (p ∙ sym q))
              (λ q. a.different j v b (omega arith) (sym (sym (at_last i p) ∙ e ∙ elsewhere j q))))
              (λ p.
              by_cases (ℕ_discrete (f j) w)
              (λ q. a.different i v (omega arith) (omega arith) (sym (elsewhere i p) ∙ e ∙ at_last j q))
              (λ q. a.different i j l (omega arith) (sym (elsewhere i p) ∙ e ∙ elsewhere j q)));
        }
