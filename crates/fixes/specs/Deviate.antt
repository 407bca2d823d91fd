-- The deviate of an element (document 02, note 9; SCOPE 4.9), here always with the one half taken off: as a fraction, and as the
-- float that is exactly it.
-- Floats, and what they mean, are those of the logic's library on IEEE 754, `lib.Ieee`.
use Rattle.std.specs.Prelude.{◌≡◌, true, false, not, ℕ, suc, ◌*◌, ◌-◌, ◌/◌, ◌^◌, ◌<◌, min, eqb, ltb, ℤ, pos, negsuc, nat_abs, ◌-ℤ◌, Float}
use Rattle.std.specs.Int.Signed.{non_neg}
use Rattle.std.specs.Float.{fin, binary64}
use Rattle.std.specs.Float.Ieee.{round, lt, le, eq}
use Rattle.std.specs.Float.Ieee.Exact.{HasValue}

-- How many of the n bits of an element are kept: 53 at most, the digits of a float.
abbrev pub places_of : ℕ → ℕ
places_of n = min n 53

-- The bits kept of the element x: the lowest n - 53 are dropped. - stops at 0, so none of 53 or fewer.
abbrev pub kept_of : ℕ → ℕ → ℕ
kept_of n x = x / 2 ^ (n - 53)

-- kept / 2 ^ places - 1 / 2 is numerator / denominator, a whole number, which may be negative, over a power of two.
abbrev pub numerator : ℕ → ℕ → ℤ
numerator n x = pos (2 * kept_of n x) -ℤ pos (2 ^ places_of n)

abbrev pub denominator : ℕ → ℕ
denominator n = 2 ^ suc (places_of n)

-- The float is exactly z / d: finite, of that sign and that size. 0 is +0.0.
abbrev pub IsExactly : Float → ℤ → ℕ → Type 0
IsExactly float z d = HasValue float (not (non_neg z)) (nat_abs z) d

-- The 64-bit float nearest to z / d; of 0, +0.0.
abbrev pub nearest_to : ℤ → ℕ → Float
nearest_to z d = round binary64 (not (non_neg z)) (nat_abs z) d

-- The deviate of the element x at width n as a float.
unfoldable pub deviate_of : ℕ → ℕ → Float
deviate_of n x = nearest_to (numerator n x) (denominator n)

-- 1/2 and -1/2 as floats.
abbrev pub half : Float
half = fin false 1 (negsuc 0)

abbrev pub minus_half : Float
minus_half = fin true 1 (negsuc 0)

-- What that float is: exactly the fraction, so nothing was rounded; at least -1/2 and below 1/2; and it compares with the float of
-- any other element as the bits kept of the two do, so that elements which differ in these give different floats.
pub record Deviate (n x : ℕ) (float : Float) : Type 0 where
  pub exact : IsExactly float (numerator n x) (denominator n)
  pub at_least : le minus_half float ≡ true
  pub below : lt float half ≡ true
  pub less : (y : ℕ) → y < 2 ^ n → lt float (deviate_of n y) ≡ ltb (kept_of n x) (kept_of n y)
  pub equal : (y : ℕ) → y < 2 ^ n → eq float (deviate_of n y) ≡ eqb (kept_of n x) (kept_of n y)
