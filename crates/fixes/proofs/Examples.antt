-- Deviates and fixes, computed: the floats of the definition, their bits, and the order of the refusals.
use mathlib.Core.Path.{◌≡◌, refl}
use mathlib.Core.Bool.{true, false}
use mathlib.Core.List.{List, [], ◌∷◌, map}
use Prim.Native.Nat.{ℕ, ◌-◌, ◌^◌}
use lib.IntN.{pos, negsuc}
use lib.Ieee.{Float, fin, binary64, round, to_bits}
use Rattle.generator.specs.Recurrence.{modulus, step, element}
use Rattle.generator.specs.Check.{refusal_of}
use Rattle.runs.specs.declared.Run.{Run}
use Rattle.runs.specs.Run.{shows, run_refusal}
use Rattle.runs.proofs.Examples.{run}
use Rattle.fixes.specs.Deviate.{deviate_of, half, minus_half}
use Rattle.fixes.specs.Fix.{fix_refusal, fix_of, fix_reply, zeros}

-- The lowest element, the one in the middle and the largest, at widths 1, 2, 53, 54 and 64. The largest at 53 and above is
-- 1/2 - 2 ^ -53.
abbrev widths : List ℕ
widths = 1 ∷ 2 ∷ 53 ∷ 54 ∷ 64 ∷ []

lowest : map (λ (n : ℕ). deviate_of n 0) widths ≡ minus_half ∷ minus_half ∷ minus_half ∷ minus_half ∷ minus_half ∷ []
unfolding deviate_of round
lowest = refl

abbrev zero_float : Float
zero_float = fin false 0 (pos 0)

middle : map (λ (n : ℕ). deviate_of n (2 ^ (n - 1))) widths ≡ zero_float ∷ zero_float ∷ zero_float ∷ zero_float ∷ zero_float ∷ []
unfolding deviate_of round
middle = refl

abbrev last : Float
last = fin false 4503599627370495 (negsuc 52)

largest : map (λ (n : ℕ). deviate_of n (2 ^ n - 1)) widths ≡ zero_float ∷ fin false 1 (negsuc 1) ∷ last ∷ last ∷ last ∷ []
unfolding deviate_of round
largest = refl

-- Bits that are dropped change nothing, however many of them are set: nothing is rounded up.
dropped : map (deviate_of 64) (2047 ∷ 2048 ∷ 4095 ∷ 9223372036854775807 ∷ 18446744073709549567 ∷ [])
    ≡ minus_half
    ∷ fin true 4503599627370495 (negsuc 52)
    ∷ fin true 4503599627370495 (negsuc 52)
    ∷ fin true 1 (negsuc 52)
    ∷ fin false 2251799813685247 (negsuc 51)
    ∷ []
unfolding deviate_of round
dropped = refl

-- The same as 64 bits: -1/2, +0.0, 1/2 - 2 ^ -53, and 2 ^ -53 below 0.
bits : map (to_bits binary64) (minus_half ∷ zero_float ∷ last ∷ fin true 1 (negsuc 52) ∷ half ∷ [])
    ≡ 13826050856027422720 ∷ 0 ∷ 4602678819172646910 ∷ 13591863675404156928 ∷ 4602678819172646912 ∷ []
unfolding to_bits
bits = refl

-- Document 01's second line shows 49, 742, 821, 434, ..: its first two fixes, of which the second is the last of a run of 5.
abbrev second : ℕ → Run
second l = run 10 371 995 73 100 l

first_fix : fix_reply (fix_refusal (second 8) 0) (fix_of (second 8) 0)
    ≡ record { refusal = 0; fix = record { east = fin true 463 (negsuc 9); north = fin false 115 (negsuc 8) } }
unfolding fix_refusal run_refusal refusal_of shows element step modulus deviate_of round
first_fix = refl

second_fix : fix_reply (fix_refusal (second 5) 1) (fix_of (second 5) 1)
    ≡ record { refusal = 0; fix = record { east = fin false 309 (negsuc 9); north = fin true 39 (negsuc 8) } }
unfolding fix_refusal run_refusal refusal_of shows element step modulus deviate_of round
second_fix = refl

past_the_end : fix_reply (fix_refusal (second 5) 2) (fix_of (second 5) 2) ≡ record { refusal = 12; fix = zeros }
unfolding fix_refusal run_refusal refusal_of shows element step modulus deviate_of round
past_the_end = refl

-- 12 from the first position on that is off the run, and where 2 f + 1 would wrap; 14 before 12 and after 3 to 5.
ends :
    map (fix_refusal (second 8))
    (3 ∷ 4 ∷ 9223372036854775807 ∷ 9223372036854775808 ∷ 18446744073709551615 ∷ [])
    ≡ 0 ∷ 12 ∷ 12 ∷ 12 ∷ 12 ∷ []
unfolding fix_refusal run_refusal refusal_of modulus
ends = refl

order :
    map (λ (r : Run). fix_refusal r 4)
    (run 65 1 0 1 0 0
    ∷ run 4 16 3 1 0 0
    ∷ run 4 5 3 1 0 0
    ∷ run 0 16807 0 0 0 9
    ∷ run 0 16807 0 1 0 0
    ∷ run 0 16807 0 1 0 9
    ∷ run 0 16807 0 1 0 10
    ∷ run 4 5 3 1 0 9
    ∷ run 4 5 3 1 0 10
    ∷ [])
    ≡ 3 ∷ 4 ∷ 5 ∷ 4 ∷ 5 ∷ 14 ∷ 14 ∷ 12 ∷ 0 ∷ []
unfolding fix_refusal run_refusal refusal_of modulus
order = refl
