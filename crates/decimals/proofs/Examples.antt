-- Decimal digits, computed.
use mathlib.Core.Path.{◌≡◌, refl}
use mathlib.Core.List.{[], ◌∷◌, map}
use Rattle.decimals.specs.Digits.{last_digits, digits_of}

-- 0, 7, 10 and 2^64 - 1 in decimal
digits :
    map digits_of (0 ∷ 7 ∷ 10 ∷ 18446744073709551615 ∷ [])
    ≡ (48 ∷ [])
    ∷ (55 ∷ [])
    ∷ (49 ∷ 48 ∷ [])
    ∷ (49 ∷ 56 ∷ 52 ∷ 52 ∷ 54 ∷ 55 ∷ 52 ∷ 52 ∷ 48 ∷ 55 ∷ 51 ∷ 55 ∷ 48 ∷ 57 ∷ 53 ∷ 53 ∷ 49 ∷ 54 ∷ 49 ∷ 53 ∷ [])
    ∷ []
unfolding digits_of last_digits
digits = refl
