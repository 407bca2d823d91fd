-- Congruence of natural numbers.
use Rattle.std.specs.Prelude.{◌≡◌, ℕ, ◌%◌}

-- u and v leave the same remainder modulo m
pub record Congruent (m u v : ℕ) : Type 0 where
  pub same : u % m ≡ v % m
