-- The search that the other definitions use.
use Rattle.std.specs.Prelude.{Bool, true, false, ℕ, zero, suc}

-- The least number below the bound at which the test holds, else the bound.
unfoldable pub least : (ℕ → Bool) → ℕ → ℕ
least p zero = zero
least p (suc bound) = elim (p zero) [ true ↦ zero | false ↦ suc (least (λ k. p (suc k)) bound) ]
