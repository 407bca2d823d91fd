-- The definition of the gap and what it means, computed.
use mathlib.Core.Path.{◌≡◌, refl}
use mathlib.Core.Bool.{◌&&◌}
use mathlib.Core.List.{[], ◌∷◌, map}
use Prim.Native.Nat.{ℕ}
use lib.IntN.{ℤ, pos, negsuc}
use Rattle.sequences.specs.Least.{least}
use Rattle.sequences.specs.Index.{index_of, occurs}
use Rattle.sequences.specs.Orbit.{return_less_one, preperiod_of, period_of}
use Rattle.sequences.specs.Gap.{ahead_of, steps_of, stepped, Leads, InRange}
use Rattle.generator.specs.declared.Generator.{Generator}
use Rattle.generator.specs.Recurrence.{modulus, step, element}
use Rattle.generator.specs.Check.{refusal_of, parity_refusal}
use Rattle.gaps.specs.declared.GapReply.{GapReply}
use Rattle.gaps.specs.Gap.{gap_refusal, period, gap_reply}

abbrev gen : ℕ → ℕ → ℕ → ℕ → Generator
gen n a c x = record { width = n; multiplier = a; increment = c; seed = x }

-- the reply of the definition
abbrev reply : Generator → ℕ → ℕ → GapReply
reply g from to =
    gap_reply (gap_refusal g) (occurs (element g) (period g) from && occurs (element g) (period g) to)
    (steps_of (element g) (period g) from to)

abbrev steps : ℤ → GapReply
steps d = record { refusal = 0; found = 1; steps = d }

abbrev never : GapReply
never = record { refusal = 0; found = 0; steps = pos 0 }

abbrev refused : ℕ → GapReply
refused n = record { refusal = n; found = 0; steps = pos 0 }

-- 4,5,3,1 goes 1, 8, 11, 10, 5, 12, 15, 14, 9, .., 7, 6: from 8 to 5 and back, over the end both ways, one step short of half
-- the period, half of it from either side, a number to itself, 16 on either side
full : reply (gen 4 5 3 1) 8 5 ∷ reply (gen 4 5 3 1) 5 8 ∷ reply (gen 4 5 3 1) 6 1 ∷ reply (gen 4 5 3 1) 1 6
    ∷ reply (gen 4 5 3 1) 1 14 ∷ reply (gen 4 5 3 1) 1 9 ∷ reply (gen 4 5 3 1) 9 1 ∷ reply (gen 4 5 3 1) 9 9
    ∷ reply (gen 4 5 3 1) 16 1 ∷ reply (gen 4 5 3 1) 1 16 ∷ []
    ≡ steps (pos 3) ∷ steps (negsuc 2) ∷ steps (pos 1) ∷ steps (negsuc 0) ∷ steps (pos 7) ∷ steps (negsuc 7) ∷ steps (negsuc 7)
    ∷ steps (pos 0) ∷ never ∷ never ∷ []
unfolding gap_refusal parity_refusal period refusal_of occurs steps_of ahead_of index_of period_of preperiod_of return_less_one least element step modulus
full = refl

-- 5,3,0,1 has the odd numbers 1, 3, 9, 27, 17, 19, 25, 11 only: period 8
some : reply (gen 5 3 0 1) 11 3 ∷ reply (gen 5 3 0 1) 1 17 ∷ reply (gen 5 3 0 1) 2 3 ∷ reply (gen 5 3 0 1) 3 5 ∷ []
    ≡ steps (pos 2) ∷ steps (negsuc 3) ∷ never ∷ never ∷ []
unfolding gap_refusal parity_refusal period refusal_of occurs steps_of ahead_of index_of period_of preperiod_of return_less_one least element step modulus
some = refl

-- the periods 1 and 2
short : reply (gen 4 1 0 9) 9 9 ∷ reply (gen 4 1 0 9) 9 8 ∷ reply (gen 1 1 1 0) 0 1 ∷ reply (gen 1 1 1 0) 1 0 ∷ reply (gen 1 1 1 0) 1 1 ∷ []
    ≡ steps (pos 0) ∷ never ∷ steps (negsuc 0) ∷ steps (negsuc 0) ∷ steps (pos 0) ∷ []
unfolding gap_refusal parity_refusal period refusal_of occurs steps_of ahead_of index_of period_of preperiod_of return_less_one least element step modulus
short = refl

-- 3 and 4 before 7, and 7 whatever the numbers are
refusals : map gap_refusal (gen 65 2 0 0 ∷ gen 0 0 0 0 ∷ gen 4 16 0 0 ∷ gen 4 2 16 0 ∷ gen 4 2 0 1 ∷ gen 4 3 0 1 ∷ gen 0 16807 0 1 ∷ [])
    ≡ 3 ∷ 4 ∷ 4 ∷ 4 ∷ 7 ∷ 0 ∷ 0 ∷ []
unfolding gap_refusal parity_refusal refusal_of modulus
refusals = refl

even : reply (gen 4 2 0 1) 16 99 ≡ refused 7
unfolding gap_refusal parity_refusal refusal_of modulus
even = refl

-- three steps from 8 give 5, and so −3 leads from 5 to 8
leads : Leads (step (gen 4 5 3 1)) 8 5 (pos 3) × Leads (step (gen 4 5 3 1)) 5 8 (negsuc 2)
unfolding stepped step modulus
leads = (refl, refl)

-- of the two halves of a period of 16 the range has −8 alone
lowest : InRange 16 (negsuc 7)
lowest = record { not_below = record { le = tt }; not_beyond = record { lt = tt } }

too_far : InRange 16 (pos 8) → ⊥
too_far r = r.not_beyond.lt
