-- The map "times A, plus B", modulo 2 ^ 64: its value, i steps of it, and one map behind another.
use Rattle.std.specs.Prelude.{◌≡◌, ℕ, zero, suc, ◌+◌, ◌*◌, ◌%◌, ◌^◌}
use Rattle.affine.specs.declared.Affine.{Affine}

-- The value of a map, not reduced.
abbrev pub apply : Affine → ℕ → ℕ
apply f x = f.factor * x + f.offset

-- i steps of "times a, plus c", not reduced.
unfoldable pub iterate : ℕ → ℕ → ℕ → ℕ → ℕ
iterate a c zero x = x
iterate a c (suc i) x = a * iterate a c i x + c

-- f is the map of i steps.
pub record Walks (a c i : ℕ) (f : Affine) : Type 0 where
  pub walks : (x : ℕ) → apply f x % 2 ^ 64 ≡ iterate a c i x % 2 ^ 64

-- r is `first` followed by `second`.
pub record Composes (first second r : Affine) : Type 0 where
  pub composes : (x : ℕ) → apply r x % 2 ^ 64 ≡ apply second (apply first x) % 2 ^ 64
