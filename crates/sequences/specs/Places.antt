-- The low bit places of the elements of a sequence, for the functions behind the calls.
use Rattle.std.specs.Prelude.{◌↔◌, ℕ, suc, ◌^◌, ◌≤◌, ◌<◌}
use Rattle.words.specs.Congruence.{Congruent}

-- u and v agree in the lowest m places.
pub record Agree (m u v : ℕ) : Type 0 where
  pub places : Congruent (2 ^ m) u v

-- For m ≤ n, two elements agree in m places exactly when the next two do.
pub record Isometric (n : ℕ) (x : ℕ → ℕ) : Type 0 where
  pub step : (m i j : ℕ) → m ≤ n → Agree m (x i) (x j) ↔ Agree m (x (suc i)) (x (suc j))

-- Of at most `limit` places, y agrees in the lowest `places` with an element of x, at the given index and at those that
-- are congruent to it modulo 2 ^ exponent, and nowhere else; and if these are not all, in one place more with none.
pub record Settles (x : ℕ → ℕ) (y limit places index exponent : ℕ) : Type 0 where
  pub within : places ≤ limit
  pub exponent_within : exponent ≤ places
  pub below : index < 2 ^ exponent
  pub exactly : (i : ℕ) → Agree places (x i) y ↔ Congruent (2 ^ exponent) i index
  pub stops : places < limit → (i : ℕ) → Agree (suc places) (x i) y → ⊥
