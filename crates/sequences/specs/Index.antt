-- The least index at which a sequence yields a number, or never (SCOPE 1.4, 3.3).
use Rattle.std.specs.Prelude.{◌≡◌, ◌↔◌, ◌⊎◌, ℕ, ◌≤◌, ◌<◌, Bool, eqb, ltb}
use Rattle.sequences.specs.Least.{least}

-- The least index below the bound at which x yields y; the bound if there is none.
unfoldable pub index_of : (ℕ → ℕ) → ℕ → ℕ → ℕ
index_of x bound y = least (λ i. eqb (x i) y) bound

-- Whether one of the first P indices yields y.
unfoldable pub occurs : (ℕ → ℕ) → ℕ → ℕ → Bool
occurs x P y = ltb (index_of x P y) P

-- Demand 3 of the index call, in its own words, for indices without end: the answer is an index, found is 1, or never, found
-- is 0; the reported index yields the number; every
-- other index that yields it is higher; never comes exactly when no index, however large, yields it.
pub record LeastIndex (x : ℕ → ℕ) (y found index : ℕ) : Type 0 where
  pub answer : (found ≡ 1) ⊎ (found ≡ 0)
  pub yields : found ≡ 1 → x index ≡ y
  pub others_higher : found ≡ 1 → (i : ℕ) → x i ≡ y → (i ≡ index → ⊥) → index < i
  pub never : (found ≡ 0) ↔ ((i : ℕ) → x i ≡ y → ⊥)

-- For the functions behind the call: k is the least index of y and lies below the bound; y has no index.
pub record Located (x : ℕ → ℕ) (y bound k : ℕ) : Type 0 where
  pub below : k < bound
  pub yields : x k ≡ y
  pub first : (i : ℕ) → x i ≡ y → k ≤ i

pub record Absent (x : ℕ → ℕ) (y : ℕ) : Type 0 where
  pub none : (i : ℕ) → x i ≡ y → ⊥
