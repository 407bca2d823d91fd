-- How many of l positions fall to lane j of k. The count c is where the lane's positions j + q * k leave the run: those with q
-- below c are below l, and the next one is not. One position more makes it one more exactly if that position leaves j modulo k,
-- and then it is position j + c * k. Only one c ends there, so that the quotient of what is behind position j is the count less 1.
-- Over all lanes the counts add up to l, since each position is counted at the one lane that it leaves modulo k.
use mathlib.Core.Path.{◌≡◌, refl, sym, ap, ap₂, ◌∙◌}
use mathlib.Core.Bool.{cond}
use mathlib.Core.Logic.{◌↔◌, by_cases}
use Prim.Native.Nat.{ℕ, zero, suc, ◌+◌, ◌*◌, ◌-◌, ◌/◌, ◌%◌, ◌≤◌, ◌<◌}
use native.Mathlib.Nat.{mod-lt, mod-eq_of_lt, div-add-mod', div-mul-le_self, lt-div-mul-add, add-mul-mod_self_right, mul-le-mul_right, mul-lt-mul_of_pos_right, eq_of_mul-eq-mul_right}
use native.Mathlib.Decide.{ℕ_discrete, dec_lt}
use native.Mathlib.Omega.{arith}
use lib.Dec.{eqb}
use borrow.Author.Tests.{eq-eqb, ne_eqb}
use Rattle.sequences.specs.Distinct.{count_of}
use Rattle.lanes.specs.Lane.{lane_count, sum_of}

-- The positions j + q * k below l are those with q below c.
pub record Ends (k l j c : ℕ) : Type 0 where
  pub before : (q : ℕ) → q < c → j + q * k < l
  pub after : l ≤ j + c * k

pub ends_exactly : {k l j c : ℕ} → Ends k l j c → (q : ℕ) → (q < c) ↔ (j + q * k < l)
ends_exactly {k} {l} {j} {c} e q = (e.before q, λ h. by_cases (dec_lt q c) (λ l. l) (λ n. absurd (beyond h (omega (arith, n)))))
  where
    beyond : j + q * k < l → c ≤ q → ⊥
    beyond h n = omega (arith, h, e.after, mul-le-mul_right k n)

ends_only : {k l j c d : ℕ} → Ends k l j c → Ends k l j d → c ≡ d
ends_only {k} {l} {j} {c} {d} e f = omega (arith, not_less e f, not_less f e)
  where
    not_less : {u v : ℕ} → Ends k l j u → Ends k l j v → v ≤ u
    not_less {u} {v} e f = by_cases (dec_lt u v) (λ h. absurd (omega (arith, f.before u h, e.after))) (λ n. omega (arith, n))

-- the first one that is not below l, where it is l itself
at_end : {k l j : ℕ} (c : ℕ) → 1 ≤ k → l ≡ j + c * k → Ends k l j c
at_end {k} {l} {j} c some e =
    record {
      before = λ q h. omega (arith, e, mul-lt-mul_of_pos_right {k = k} h some);
      after = omega (arith, e);
    }

-- one position more
one_more : {k l j : ℕ} (c : ℕ) → 1 ≤ k → l ≡ j + c * k → Ends k (suc l) j (suc c)
one_more {k} {l} {j} c some e =
    record {
      before = λ q h. let lower : q ≤ c = omega arith in omega (arith, e, mul-le-mul_right k lower);
      after = omega (arith, e, some);
    }

no_more : {k l j c : ℕ} → j < k → (l % k ≡ j → ⊥) → Ends k l j c → Ends k (suc l) j c
no_more {k} {l} {j} {c} h n e =
    record {
      before = λ q b. omega (arith, e.before q b);
      after = omega (arith, e.after, other);
    }
  where
    other : l ≡ j + c * k → ⊥
    other q = n (ap (λ (u : ℕ). u % k) q ∙ add-mul-mod_self_right j c k ∙ mod-eq_of_lt h)

pub count_ends : (k l j : ℕ) → j < k → Ends k l j (lane_count k l j)
unfolding lane_count count_of
count_ends k zero j h = record { before = λ q b. absurd (omega arith); after = omega arith }
count_ends k (suc l) j h =
    let e = count_ends k l j h in
    by_cases (ℕ_discrete (l % k) j)
    (λ q. rw (eq-eqb (l % k) j q) (taken (l / k) (at q) e))
    (λ n. rw (ne_eqb (l % k) j n) (kept (no_more h n e)))
  where
    some : 1 ≤ k
    some = omega (arith, h)

    at : l % k ≡ j → l ≡ j + l / k * k
    at q = omega (arith, div-add-mod' l k, q)

    taken : {c : ℕ} (t : ℕ) → l ≡ j + t * k → Ends k l j c → Ends k (suc l) j (c + 1)
    taken {c} t q e =
        let same : c + 1 ≡ suc t = omega (arith, ends_only e (at_end t some q)) in
        rw same (one_more t some q)

    kept : {c : ℕ} → Ends k (suc l) j c → Ends k (suc l) j (c + 0)
    kept {c} e = let same : c + 0 ≡ c = omega arith in rw same e

-- what is behind position j, by the quotient
pub count_quotient : (k l j : ℕ) → j < k → j < l → (l - 1 - j) / k + 1 ≡ lane_count k l j
count_quotient k l j h b = ends_only (record { before = before; after = after }) (count_ends k l j h)
  where
    some : 1 ≤ k
    some = omega (arith, h)

    t : ℕ
    t = (l - 1 - j) / k

    before : (q : ℕ) → q < t + 1 → j + q * k < l
    before q c = let lower : q ≤ t = omega arith in omega (arith, mul-le-mul_right k lower, div-mul-le_self (l - 1 - j) k, b)

    after : l ≤ j + (t + 1) * k
    after = omega (arith, lt-div-mul-add {a = l - 1 - j} {b = k} some, b)

-- a lane has no more positions than the run
pub count_within : (k l j : ℕ) → j < k → j < l → lane_count k l j ≤ l
count_within k l j h b = omega (arith, count_quotient k l j h b, below)
  where
    some : 1 ≤ k
    some = omega (arith, h)

    below : (l - 1 - j) / k ≤ l - 1 - j
    below = omega (arith, div-mul-le_self (l - 1 - j) k, mul-le-mul_right {m = 1} {n = k} ((l - 1 - j) / k) some)

-- a position leaves its lane modulo k, and is found at one place of it only
pub place_only : {k i j q r : ℕ} → i < k → j < k → i + q * k ≡ j + r * k → (i ≡ j) × (q ≡ r)
place_only {k} {i} {j} {q} {r} h g e = (lane, eq_of_mul-eq-mul_right k (omega (arith, h)) q r (omega (arith, e, lane)))
  where
    lane : i ≡ j
    lane =
        sym (add-mul-mod_self_right i q k ∙ mod-eq_of_lt h)
        ∙ ap (λ (p : ℕ). p % k) e
        ∙ (add-mul-mod_self_right j r k ∙ mod-eq_of_lt g)

pub place_of : (k p : ℕ) → p ≡ p % k + p / k * k
place_of k p = omega (arith, div-add-mod' p k)

-- The sum over the lanes.
sum_zero : (n : ℕ) → sum_of (λ (j : ℕ). 0) n ≡ 0
unfolding sum_of
sum_zero zero = refl
sum_zero (suc n) = omega (arith, sum_zero n)

sum_add : (f g : ℕ → ℕ) (n : ℕ) → sum_of (λ j. f j + g j) n ≡ sum_of f n + sum_of g n
unfolding sum_of
sum_add f g zero = refl
sum_add f g (suc n) = omega (arith, sum_add f g n)

-- of one lane only
abbrev only : ℕ → ℕ → ℕ
only i j = cond (eqb i j) 1 0

sum_none : (i n : ℕ) → n ≤ i → sum_of (only i) n ≡ 0
unfolding sum_of
sum_none i zero h = refl
sum_none i (suc n) h = rw (ne_eqb i n (λ e. omega (arith, e, h))) (omega (arith, sum_none i n (omega arith)))

sum_one : (i n : ℕ) → i < n → sum_of (only i) n ≡ 1
unfolding sum_of
sum_one i zero h = absurd (omega arith)
sum_one i (suc n) h =
    by_cases (ℕ_discrete i n)
    (λ e. rw (eq-eqb i n e) (omega (arith, sum_none i n (omega (arith, e)))))
    (λ d. rw (ne_eqb i n d) (omega (arith, sum_one i n (omega (arith, d, h)))))

pub count_total : (k l : ℕ) → 1 ≤ k → sum_of (lane_count k l) k ≡ l
unfolding lane_count count_of
count_total k zero h = sum_zero k
count_total k (suc l) h =
    sum_add (lane_count k l) (only (l % k)) k
    ∙ ap₂ (λ (u v : ℕ). u + v) (count_total k l h) (sum_one (l % k) k (mod-lt l h))
    ∙ omega arith
