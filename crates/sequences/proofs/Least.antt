-- What `least` finds: the test holds there, at nothing below, and where it gives the bound at nothing below the bound.
-- These three facts fix it.
use mathlib.Core.Path.{◌≡◌, refl, sym, ◌∙◌}
use mathlib.Core.Bool.{Bool, true, false, true≢false}
use Prim.Native.Nat.{ℕ, zero, suc, ◌≤◌, ◌<◌}
use native.Mathlib.Nat.{lt_of_not-le, le_antisymm, lt_of_lt_of_le}
use native.Mathlib.Decide.{dec_le}
use native.Mathlib.Omega.{arith}
use Rattle.sequences.specs.Least.{least}

pub record Least (p : ℕ → Bool) (bound k : ℕ) : Type 0 where
  pub within : k ≤ bound
  pub holds : k < bound → p k ≡ true
  pub first : (j : ℕ) → j < k → p j ≡ false

pub least_least : (p : ℕ → Bool) (bound : ℕ) → Least p bound (least p bound)
unfolding least
least_least p zero = record { within = omega arith; holds = λ h. absurd (omega arith); first = λ j h. absurd (omega arith) }
least_least p (suc n) = go (least (λ k. p (suc k)) n) (least_least (λ k. p (suc k)) n) (p zero) refl
  where
    below : (m : ℕ) → Least (λ k. p (suc k)) n m → p zero ≡ false → (j : ℕ) → j < suc m → p j ≡ false
    below m later e zero h = e
    below m later e (suc j) h = later.first j (omega arith)

    go :
        (m : ℕ) → Least (λ k. p (suc k)) n m → (b : Bool) → p zero ≡ b →
        Least p (suc n) (elim b [ true ↦ zero | false ↦ suc m ])
    go m later true e = record { within = omega arith; holds = λ h. e; first = λ j h. absurd (omega arith) }
    go m later false e =
        record
        { within = omega (arith, later.within); holds = λ h. later.holds (omega arith); first = below m later e }

-- where the test holds, it is not below the least
pub least_below : {p : ℕ → Bool} {bound k : ℕ} → Least p bound k → (j : ℕ) → p j ≡ true → k ≤ j
least_below {p} {bound} {k} l j t = elim (dec_le k j) [ yes h ↦ h | no f ↦ absurd (true≢false (sym t ∙ l.first j (lt_of_not-le f))) ]

pub least_unique : {p : ℕ → Bool} {bound k : ℕ} → Least p bound k → least p bound ≡ k
least_unique {p} {bound} {k} l = same (least p bound) (least_least p bound)
  where
    not_below : {i j : ℕ} → Least p bound i → Least p bound j → i < j → ⊥
    not_below {i} {j} a b h = true≢false (sym (a.holds (lt_of_lt_of_le h b.within)) ∙ b.first i h)

    same : (i : ℕ) → Least p bound i → i ≡ k
    same i m =
        elim (dec_le i k) [
          | yes h ↦ elim (dec_le k i) [ yes h' ↦ le_antisymm h h' | no f ↦ absurd (not_below m l (lt_of_not-le f)) ]
          | no f ↦ absurd (not_below l m (lt_of_not-le f))
        ]

-- two tests that are the same everywhere
pub least_same : {p q : ℕ → Bool} (bound : ℕ) → ((i : ℕ) → p i ≡ q i) → least p bound ≡ least q bound
least_same {p} {q} bound e =
    let l = least_least q bound in
    least_unique
    (record {
      within = l.within;
      holds = λ h. e (least q bound) ∙ l.holds h;
      first = λ j h. e j ∙ l.first j h;
    })
