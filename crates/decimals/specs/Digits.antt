-- The decimal digits of a number, as ASCII bytes (SCOPE 4.3).
use Rattle.std.specs.Prelude.{ℕ, zero, suc, ◌+◌, ◌/◌, ◌%◌, true, false, List, [], ◌∷◌, ◌++◌, ltb}

-- the last k digits of n, the highest first, or all of them where n has fewer
unfoldable pub last_digits : ℕ → ℕ → List ℕ
last_digits zero n = []
last_digits (suc k) n =
    elim (ltb n 10) [ true ↦ (48 + n) ∷ [] | false ↦ last_digits k (n / 10) ++ ((48 + n % 10) ∷ []) ]

-- all digits of n: it has no more than n + 1
unfoldable pub digits_of : ℕ → List ℕ
digits_of n = last_digits (suc n) n
