-- The signed count of d steps ahead round a period of suc last, in a 64-bit machine. The way taken is at most half the period:
-- ahead it is below 2 ^ 63, and back it is one more than the number taken from −1, which is below 2 ^ 63 too.
use mathlib.Core.Path.{◌≡◌, refl, sym, ap, ◌∙◌}
use mathlib.Core.Logic.{by_cases}
use Prim.Native.Nat.{ℕ, zero, suc, ◌+◌, ◌-◌, ◌*◌, ◌/◌, ◌^◌, ◌≤◌, ◌<◌}
use native.Mathlib.Decide.{dec_lt}
use native.Mathlib.Omega.{arith}
use lib.IntN.{pos, negsuc, ◌-ℤ◌}
use mir.Syntax.{w64}
use mir.Val.{SFits, to_z, of_z}
use mir.ValLaws.{to_z-of_z}
use Rattle.sequences.specs.Gap.{signed_of}
use Rattle.sequences.proofs.Gaps.{signed_ahead, signed_back}

-- a number below 2 ^ 63 is the same with a sign
plain : {n : ℕ} → n < 2 ^ 63 → to_z w64 n ≡ pos n
plain {n} h = to_z-of_z w64 (pos n) (record { sfits = h })

-- −1 − n
below_zero : (n : ℕ) → negsuc 0 -ℤ pos n ≡ negsuc n
below_zero zero = refl
below_zero (suc n) = ap negsuc (let e : suc (0 + n) ≡ suc n = omega arith in e)

taken : {n : ℕ} → n < 2 ^ 63 → negsuc 0 -ℤ to_z w64 n ≡ negsuc n
taken {n} h = rw (plain h) (below_zero n)

pub taken_fits : (n : ℕ) → n < 2 ^ 63 → SFits w64 (negsuc 0 -ℤ to_z w64 n)
taken_fits n h = rw (taken h) (record { sfits = h })

module _ {d last : ℕ} (l : d ≤ last) (word : last < 2 ^ 64) where
  -- straight on
  module _ (h : d < last / 2 + 1) where
    ahead_low : d < 2 ^ 63
    ahead_low = omega arith

    ahead_is : signed_of (suc last) d ≡ pos d
    ahead_is = let half : 2 * d < suc last = omega arith in signed_ahead half

    pub straight : to_z w64 d ≡ signed_of (suc last) d
    straight = plain ahead_low ∙ sym ahead_is

  -- back round the period
  module _ (h : last / 2 + 1 ≤ d) where
    back_low : last - d < 2 ^ 63
    back_low = omega arith

    back_is : signed_of (suc last) d ≡ negsuc (last - d)
    back_is =
        let below : d < suc last = omega arith in
        let half : suc last ≤ 2 * d = omega arith in
        let e : suc last - suc d ≡ last - d = omega arith in signed_back below half ∙ ap negsuc e

    pub back : to_z w64 (of_z w64 (negsuc 0 -ℤ to_z w64 (last - d))) ≡ signed_of (suc last) d
    back = to_z-of_z w64 _ (taken_fits (last - d) back_low) ∙ taken back_low ∙ sym back_is

  -- either way it is a number of 64 bits with a sign
  pub signed_fits : SFits w64 (signed_of (suc last) d)
  signed_fits =
      by_cases (dec_lt d (last / 2 + 1)) (λ h. rw (ahead_is h) (record { sfits = ahead_low h }))
      (λ h. let b : last / 2 + 1 ≤ d = omega arith in rw (back_is b) (record { sfits = back_low b }))
