-- What one step of Newton's iteration for an inverse does.
use Rattle.std.specs.Prelude.{◌≡◌, ℕ, ◌+◌, ◌*◌, ◌%◌, ◌^◌, ◌≤◌}

-- Where x inverts a modulo 2 ^ k, r inverts it modulo 2 ^ (k + k).
pub record Doubles (a x r : ℕ) : Type 0 where
  pub doubles : (k : ℕ) → 1 ≤ k → k + k ≤ 64 → a * x % 2 ^ k ≡ 1 → a * r % 2 ^ (k + k) ≡ 1
