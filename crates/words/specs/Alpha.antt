-- α of document 01, and the first bit place in which two numbers differ (SCOPE 2.5).
use Rattle.std.specs.Prelude.{◌≡◌, ℕ, suc, ◌%◌, ◌^◌, ◌≤◌, ◌≢◌}

-- r is α z: z is a multiple of 2 ^ r and, where z is not 0, of no higher power of two.
-- At z = 0, where α has no value, the machine's operation gives 64.
pub record Alpha (z r : ℕ) : Type 0 where
  pub multiple : z % 2 ^ r ≡ 0
  pub exact : (z ≢ 0) → z % 2 ^ suc r ≢ 0
  pub at_zero : z ≡ 0 → r ≡ 64
  pub small : r ≤ 64

-- Of the 64 places, a and b agree in the lowest r and in no more.
pub record FirstDifference (a b r : ℕ) : Type 0 where
  pub below : (m : ℕ) → m ≤ r → a % 2 ^ m ≡ b % 2 ^ m
  pub above : (m : ℕ) → m ≤ 64 → a % 2 ^ m ≡ b % 2 ^ m → m ≤ r
  pub small : r ≤ 64
