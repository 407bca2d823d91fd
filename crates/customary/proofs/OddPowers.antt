-- The customary multiplier is the largest odd power of 5 below 2 ^ n. The odd powers grow by the factor 25, and the
-- n-th is at least 2 ^ n, so the search for the first that is not below ends before n; all before it are below.
use Rattle.std.proofs.Common.{⊎_elim}
use Rattle.std.specs.Prelude.{Ok, Err, ◌⊎◌}
use mathlib.Core.Path.{◌≡◌, refl, sym, ap, subst, ◌∙◌}
use mathlib.Core.Bool.{Bool, true, false, cond, ◌||◌}
use mathlib.Core.List.{List}
use Prim.Native.Nat.{ℕ, zero, suc, ◌+◌, ◌*◌, ◌^◌, ◌-◌, ◌≤◌, ◌<◌}
use native.Mathlib.Nat.{pow-suc, le_refl, lt_of_not-le, lt_of_lt_of_le}
use native.Mathlib.Decide.{dec_le, le_ind}
use native.Mathlib.Omega.{arith}
use lib.Dec.{T, eqb, eqb→eq, leb, lit<, ltb}
use lib.ListN.{length}
use lib.Pow.{pow_mono}
use borrow.Author.Tests.{leb-true, leb-false, le-ltb, lt-ltb}
use Rattle.refusals.specs.declared.Refusal.TheVariants.{WidthOutOfRange}
use Rattle.sequences.specs.Least.{least}
use Rattle.refusals.specs.Replies.{plain_value}
use Rattle.customary.specs.Customary.{odd_power, customary_of, customary_refusal, CustomaryTable, LargestOddPower, CustomaryPromise}
use Rattle.sequences.proofs.Least.{Least, least_least}
use Rattle.refusals.proofs.Replies.{number_nonzero, value_refused, value_given}
use Rattle.sequences.proofs.Table.{every, every_at}

odd_power_suc : (k : ℕ) → odd_power (suc k) ≡ 25 * odd_power k
unfolding odd_power
odd_power_suc k =
    ap (λ (j : ℕ). 5 ^ j) (let e : 2 * suc k + 1 ≡ suc (suc (2 * k + 1)) = omega arith in e)
    ∙ pow-suc 5 (suc (2 * k + 1))
    ∙ ap (λ (m : ℕ). m * 5) (pow-suc 5 (2 * k + 1))
    ∙ omega arith

odd_power_mono : {m k : ℕ} → m ≤ k → odd_power m ≤ odd_power k
odd_power_mono {m} {k} h =
    le_ind (λ (j : ℕ). odd_power m ≤ odd_power j) (le_refl _) (λ j l t. omega (arith, odd_power_suc j)) k h

odd_power_high : (n : ℕ) → 2 ^ n ≤ odd_power n
unfolding odd_power
odd_power_high zero = omega arith
odd_power_high (suc n) = omega (arith, odd_power_high n, odd_power_suc n)

five : odd_power 0 < 2 ^ 3
unfolding odd_power
five = lit< tt

pub customary_largest : (n : ℕ) → 3 ≤ n → LargestOddPower n (customary_of n)
unfolding customary_of
customary_largest n h =
    record { exponent = k; power = refl; below = below k l; largest = λ m t. largest m t (dec_le m k) }
  where
    next : ℕ → Bool
    next j = leb (2 ^ n) (odd_power (suc j))

    k : ℕ
    k = least next n

    l : Least next n k
    l = least_least next n

    below : (j : ℕ) → Least next n j → odd_power j < 2 ^ n
    below zero m = lt_of_lt_of_le five (pow_mono h)
    below (suc j) m = leb-false _ _ (m.first j (omega arith))

    -- the search ends before its bound
    ends : k < n
    ends =
        lt_of_not-le λ e.
        omega
        (arith, odd_power_high n, odd_power_mono {m = n} {k = suc (n - 1)} (omega arith), leb-false (2 ^ n) (odd_power (suc (n - 1))) (l.first (n - 1) (omega arith)))

    largest : (m : ℕ) → odd_power m < 2 ^ n → Dec (m ≤ k) → odd_power m ≤ odd_power k
    largest m t (yes e) = odd_power_mono e
    largest m t (no f) = absurd (omega (arith, leb-true (2 ^ n) (odd_power (suc k)) (l.holds ends), odd_power_mono {m = suc k} {k = m} (lt_of_not-le f)))

-- the table's rule: one test computed over all entries
abbrev right : ℕ → ℕ → Bool
right k x = eqb x (customary_of (k + 3))

pub table_rule : {xs : List ℕ} → T (every right 0 xs) → length xs ≡ 62 → CustomaryTable xs
table_rule {xs} t e = record { rule = λ k h. eqb→eq _ _ (every_at right xs t k (omega arith)) }

-- the promise of the call
pub customary_refused : (n : ℕ) → (n < 3) ⊎ (64 < n) → CustomaryPromise n (plain_value (Err WidthOutOfRange))
unfolding customary_refusal
customary_refused n outside =
    record {
      equals = value_refused WidthOutOfRange _ (sym (⊎_elim below above outside));
      largest = λ z. absurd (number_nonzero WidthOutOfRange z);
    }
  where
    below : n < 3 → customary_refusal n ≡ 3
    below l = simp (lt-ltb n 3 l)

    either : (b : Bool) → ◌≡◌ {A = ℕ} (cond (b || true) 3 0) 3
    either true = refl
    either false = refl

    above : 64 < n → customary_refusal n ≡ 3
    above h = ap (λ (b : Bool). cond (ltb n 3 || b) 3 0) (lt-ltb 64 n h) ∙ either (ltb n 3)

pub customary_given : {n v : ℕ} → 3 ≤ n → n ≤ 64 → v ≡ customary_of n → CustomaryPromise n (plain_value (Ok v))
unfolding customary_refusal
customary_given {n} {v} h l e =
    record {
      equals = value_given {n = customary_refusal n} _ (simp (le-ltb n 3 h, le-ltb 64 n l)) e;
      largest = λ z. subst (LargestOddPower n) (sym e) (customary_largest n h);
    }
