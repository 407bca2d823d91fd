-- How many different values the first elements of two sequences have in common (document 02, note 11; SCOPE 4.11).
use Rattle.std.specs.Prelude.{◌≡◌, ◌&&◌, ◌↔◌, ℕ, ◌+◌, ◌-◌, ◌<◌, min}
use Rattle.sequences.specs.Index.{occurs}
use Rattle.sequences.specs.Distinct.{count_of, is_new}

-- The number of different values among the first n elements of x that are also among the first m of z: each is counted at the
-- first index of x that yields it.
unfoldable pub common_of : (ℕ → ℕ) → ℕ → (ℕ → ℕ) → ℕ → ℕ
common_of x n z m = count_of (λ i. is_new x i && occurs z m (x i)) n

-- y is one of the first n elements of x.
abbrev pub Yields : (ℕ → ℕ) → ℕ → ℕ → Type 0
Yields x n y = (i : ℕ) × (i < n) × (x i ≡ y)

-- What it means: there is a list of v numbers, all different, and a number is in it exactly when it is one of the first n
-- elements of x and one of the first m of z.
pub record Common (x : ℕ → ℕ) (n : ℕ) (z : ℕ → ℕ) (m v : ℕ) : Type 0 where
  pub list : ℕ → ℕ
  pub different : (i j : ℕ) → i < j → j < v → list i ≡ list j → ⊥
  pub exactly : (y : ℕ) → Yields list v y ↔ (Yields x n y × Yields z m y)

-- For the functions behind the call: how many places two arcs share on a circle of P places, one of n places from 0 on, the
-- other of m from d on. Neither has more than P; what of the second passes the end stands at the first places (`-` is cut at 0).
abbrev pub arcs_share : ℕ → ℕ → ℕ → ℕ → ℕ
arcs_share P n d m = min n (d + min m P - P) + (min (min n P) (d + min m P) - d)
