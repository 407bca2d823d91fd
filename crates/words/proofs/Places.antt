-- The machine's count of trailing zeros is α, and α of a difference modulo 2 ^ 64 is the first place in which
-- the two numbers differ: a ≡ d + b there, so a and b agree in m places exactly when d is a multiple of 2 ^ m.
-- And a mask of n ones keeps the low n bits.
use Rattle.std.proofs.Common.{◌≡◌, ℕ, zero, suc, ◌+◌, ◌-◌, ◌*◌, ◌/◌, ◌%◌, ◌^◌, ◌<◌, ◌≤◌, not, eqb, leb, sym, refl, ap, ◌∙◌, le_trans, mod-lt, mod-eq_of_lt, le_antisymm, pow-suc, lt_of_not-le, arith, lit<, pow_pos, eq-eqb, ne_eqb, le-leb}
use mathlib.Core.Logic.{by_cases}
use native.Mathlib.Nat.{mod_self, mod-one, zero-mod}
use native.Mathlib.Decide.{dec_le, ℕ_discrete}
use lib.Arith.{mod-mul}
use lib.Bits.{bit_and, and_mask}
use lib.Count.{count_trailing_zeros, under, trailing_le, trailing_of_zero}
use lib.Pow.{pow-lt, ones_split, ones_lt, high}
use borrow.Author.Tests.{lt-leb}
use Rattle.words.specs.Alpha.{Alpha, FirstDifference}
use Rattle.words.proofs.Congruence.{Congruent, same_refl, same_regroup, same_sym, same_trans, same_result, same_add, same_add_cancel, same_lower}

-- n modulo a power of two, by its lowest bit and the rest
mod_double : (n k : ℕ) → n % 2 ^ suc k ≡ n / 2 % 2 ^ k * 2 + n % 2
mod_double n k = ap (λ (m : ℕ). n % m) (pow-suc 2 k) ∙ mod-mul n (pow_pos k) (lit< tt)

-- of k bits, r are zero below the lowest one bit of n
record Trailing (k n r : ℕ) : Type 0 where
  multiple : n % 2 ^ r ≡ 0
  exact : r < k → n % 2 ^ suc r ≡ 0 → ⊥

one_more : (k n d t : ℕ) → n % 2 ≡ d → Trailing k (n / 2) t → Trailing (suc k) n (under d t)
one_more k n zero t e h =
    record {
      multiple = omega (arith, mod_double n t, h.multiple);
      exact = λ l z. h.exact (omega arith) (omega (arith, mod_double n (suc t)));
    }
one_more k n (suc d) t e h = record { multiple = mod-one n; exact = λ l z. omega (arith, mod_double n 0) }

trailing : (k n : ℕ) → Trailing k n (count_trailing_zeros k n)
unfolding count_trailing_zeros
trailing zero n = record { multiple = mod-one n; exact = λ l z. omega arith }
trailing (suc k) n = one_more k n (n % 2) _ (mod_refl n) (trailing k (n / 2))
  where
    mod_refl : (n : ℕ) → n % 2 ≡ n % 2
    mod_refl n = omega arith

-- the machine's count at 64 bits
pub trailing_alpha : (z : ℕ) → z < 2 ^ 64 → Alpha z (count_trailing_zeros 64 z)
trailing_alpha z h =
    record {
      multiple = t.multiple;
      exact = λ nonzero. t.exact (lt_of_not-le (λ l. nonzero (whole l)));
      at_zero = λ e. ap (λ (n : ℕ). count_trailing_zeros 64 n) e ∙ trailing_of_zero 64;
      small = trailing_le 64 z;
    }
  where
    r : ℕ
    r = count_trailing_zeros 64 z

    t : Trailing 64 z r
    t = trailing 64 z

    -- a number below 2 ^ 64 with 64 zeros is 0
    whole : 64 ≤ r → z ≡ 0
    whole l = sym (mod-eq_of_lt h) ∙ (same_lower 64 l (record { same = t.multiple ∙ sym (zero-mod (2 ^ r)) })).same ∙ zero-mod (2 ^ 64)

-- a multiple of 2 ^ m, as a congruence
multiple_of : {z : ℕ} (m : ℕ) → z % 2 ^ m ≡ 0 → Congruent (2 ^ m) z 0
multiple_of m e = record { same = e ∙ sym (zero-mod (2 ^ m)) }

-- z is a multiple of 2 ^ m up to α of it, and no further
module _ {z r : ℕ} (α : Alpha z r) where
  pub alpha_below : (m : ℕ) → m ≤ r → z % 2 ^ m ≡ 0
  alpha_below m l = (same_lower m l (multiple_of r α.multiple)).same ∙ zero-mod (2 ^ m)

  pub alpha_above : (m : ℕ) → m ≤ 64 → z % 2 ^ m ≡ 0 → m ≤ r
  alpha_above m l e = elim (dec_le m r) [ yes h ↦ h | no f ↦ absurd (past (lt_of_not-le f) (ℕ_discrete z 0)) ]
    where
      past : r < m → Dec (z ≡ 0) → ⊥
      past g (yes q) = omega (arith, α.at_zero q)
      past g (no f) = α.exact f ((same_lower (suc r) g (multiple_of m e)).same ∙ zero-mod (2 ^ suc r))

-- α of a power of two is its exponent, up to 2 ^ 64, which the machine has as 0
pub alpha_power : {z r : ℕ} (e : ℕ) → e ≤ 64 → z ≡ 2 ^ e % 2 ^ 64 → Alpha z r → r ≡ e
alpha_power {z} {r} e l q α = by_cases (ℕ_discrete e 64) whole part
  where
    whole : e ≡ 64 → r ≡ e
    whole h = α.at_zero (q ∙ ap (λ (n : ℕ). 2 ^ n % 2 ^ 64) h) ∙ sym h

    part : (e ≡ 64 → ⊥) → r ≡ e
    part d = le_antisymm above (alpha_above α e l (ap (λ (n : ℕ). n % 2 ^ e) same ∙ mod_self (2 ^ e)))
      where
        same : z ≡ 2 ^ e
        same = q ∙ mod-eq_of_lt (pow-lt (let h : e < 64 = omega arith in h))

        above : r ≤ e
        above =
            elim (dec_le r e) [
              | yes h ↦ h
              | no f ↦
                  absurd
                  (omega (
                    arith,
                    pow_pos e,
                    alpha_below α (suc e) (lt_of_not-le f),
                    ap (λ (n : ℕ). n % 2 ^ suc e) same,
                    mod-eq_of_lt {n = 2 ^ e} {m = 2 ^ suc e} (pow-lt (let h : e < suc e = omega arith in h)),
                  ))
            ]

-- d above v modulo 2 ^ n is u: they agree in the low m places exactly where d has no bit there
module _ {n u v : ℕ} (d : ℕ) (h : Congruent (2 ^ n) (v + d) u) {m : ℕ} (l : m ≤ n) where
  pub above_agree : d % 2 ^ m ≡ 0 → Congruent (2 ^ m) u v
  above_agree z =
      same_trans (same_sym (same_lower m l h)) (same_regroup (same_add (same_refl _ v) (multiple_of m z)) refl (omega arith))

  pub above_zero : Congruent (2 ^ m) u v → d % 2 ^ m ≡ 0
  above_zero c =
      (same_add_cancel {c = v} {d = v}
      (same_regroup {s = d + v} {t = 0 + v} (same_trans (same_lower m l h) c) (omega arith) (omega arith))
      (same_refl _ v)).same
      ∙ zero-mod (2 ^ m)

-- α of the difference modulo 2 ^ 64
pub alpha_difference : {a b d r : ℕ} → (d + b) % 2 ^ 64 ≡ a → Alpha d r → FirstDifference a b r
alpha_difference {a} {b} {d} {r} e α =
    record {
      below = λ m l. (above_agree d whole (le_trans l α.small) (alpha_below α m l)).same;
      above = λ m l s. alpha_above α m l (above_zero d whole l (record { same = s }));
      small = α.small;
    }
  where
    whole : Congruent (2 ^ 64) (b + d) a
    whole = same_sym (same_result (b + d) (sym e ∙ ap (λ (t : ℕ). t % 2 ^ 64) (omega arith)))

-- 64 ones shifted down to n
pub ones_shifted : (n : ℕ) → n ≤ 64 → (2 ^ 64 - 1) / 2 ^ (64 - n) ≡ 2 ^ n - 1
ones_shifted n h =
    ap (λ (j : ℕ). (2 ^ j - 1) / 2 ^ k) (let e : 64 ≡ n + k = omega arith in e)
    ∙ ap (λ (m : ℕ). m / 2 ^ k) (ones_split n k)
    ∙ high (2 ^ n - 1) k (ones_lt k)
  where
    k : ℕ
    k = 64 - n

-- are the mask of the low n bits
pub mask_low : (x n : ℕ) → n ≤ 64 → bit_and x ((2 ^ 64 - 1) / 2 ^ (64 - n)) ≡ x % 2 ^ n
mask_low x n h = ap (bit_and x) (ones_shifted n h) ∙ and_mask x n

-- x has bits above the low n exactly when it is 2 ^ n or more
pub exceeds_test : (n x : ℕ) → not (eqb (x % 2 ^ n) x) ≡ leb (2 ^ n) x
exceeds_test n x =
    elim (dec_le (2 ^ n) x) [
      | yes h ↦
          ap not (ne_eqb (x % 2 ^ n) x (λ e. omega (arith, mod-lt x (pow_pos n)))) ∙ sym (le-leb (2 ^ n) x h)
      | no f ↦
          ap not (eq-eqb (x % 2 ^ n) x (mod-eq_of_lt (lt_of_not-le f))) ∙ sym (lt-leb (2 ^ n) x (lt_of_not-le f))
    ]
