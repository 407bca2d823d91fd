-- How many different values the first elements of a sequence have (document 02, note 4; SCOPE 4.6).
use Rattle.std.specs.Prelude.{◌≡◌, Bool, cond, not, ℕ, zero, suc, ◌+◌, ◌≤◌, ◌<◌}
use Rattle.sequences.specs.Index.{occurs}

-- The count of the numbers below n at which the test holds.
unfoldable pub count_of : (ℕ → Bool) → ℕ → ℕ
count_of p zero = zero
count_of p (suc n) = count_of p n + cond (p n) 1 0

-- Whether index i yields what no earlier index yields.
unfoldable pub is_new : (ℕ → ℕ) → ℕ → Bool
is_new x i = not (occurs x i (x i))

-- The number of different values among the first n elements: each is counted at the first index that yields it.
unfoldable pub distinct_of : (ℕ → ℕ) → ℕ → ℕ
distinct_of x n = count_of (is_new x) n

-- What it means: the first v elements differ from one another, and each of the first n is one of them. There is such a v in
-- every sequence in which equal elements have equal successors: nothing new comes there once a value has come again.
pub record Distinct (x : ℕ → ℕ) (n v : ℕ) : Type 0 where
  pub within : v ≤ n
  pub different : (i j : ℕ) → i < j → j < v → x i ≡ x j → ⊥
  pub all : (i : ℕ) → i < n → (k : ℕ) × (k < v) × (x k ≡ x i)
