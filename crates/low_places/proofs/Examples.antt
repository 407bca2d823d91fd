-- The definition of the places call, computed.
use mathlib.Core.Path.{◌≡◌, refl}
use mathlib.Core.List.{[], ◌∷◌, map}
use Prim.Native.Nat.{ℕ}
use Rattle.sequences.specs.Least.{least}
use Rattle.sequences.specs.Index.{index_of}
use Rattle.sequences.specs.Orbit.{return_less_one, preperiod_of, exponent_of}
use Rattle.sequences.specs.Occurrences.{low}
use Rattle.generator.specs.declared.Generator.{Generator}
use Rattle.generator.specs.Recurrence.{modulus, step, element}
use Rattle.generator.specs.Check.{refusal_of}
use Rattle.low_places.specs.declared.PlacesReply.{PlacesReply}
use Rattle.low_places.specs.Places.{range_refusal, places_refusal, once_reply, every_reply, never_reply, refused_reply, places_reply}

abbrev gen : ℕ → ℕ → ℕ → ℕ → Generator
gen n a c x = record { width = n; multiplier = a; increment = c; seed = x }

-- the reply of the definition
abbrev reply : Generator → ℕ → ℕ → PlacesReply
reply g m y =
    let x = low m (element g) in
    let k = index_of x (modulus g) y in places_reply (places_refusal g m) (modulus g) k (return_less_one x (modulus g) k)

-- 4,5,3,1 goes 1, 8, 11, 10, 5, 12, 15, 14, ..: in one place 1, 0, 1, 0, in two 1, 0, 3, 2, in all four as the index has it
odd : reply (gen 4 5 3 1) 1 1 ∷ reply (gen 4 5 3 1) 1 0 ∷ reply (gen 4 5 3 1) 2 3 ∷ reply (gen 4 5 3 1) 2 2 ∷ reply (gen 4 5 3 1) 3 7
    ∷ reply (gen 4 5 3 1) 4 6 ∷ reply (gen 4 5 3 1) 2 4 ∷ []
    ≡ every_reply 0 1 ∷ every_reply 1 1 ∷ every_reply 2 2 ∷ every_reply 3 2 ∷ every_reply 6 3 ∷ every_reply 15 4 ∷ never_reply ∷ []
unfolding places_refusal range_refusal refusal_of low index_of return_less_one exponent_of least element step modulus
odd = refl

-- 5,3,0,1 has the odd numbers 1, 3, 9, 27, 17, 19, 25, 11 only: all alike in one place, 1, 3, 1, 3 in three
some : reply (gen 5 3 0 1) 1 1 ∷ reply (gen 5 3 0 1) 1 0 ∷ reply (gen 5 3 0 1) 3 3 ∷ reply (gen 5 3 0 1) 3 5 ∷ reply (gen 5 3 0 1) 5 25 ∷ []
    ≡ every_reply 0 0 ∷ never_reply ∷ every_reply 1 1 ∷ never_reply ∷ every_reply 6 3 ∷ []
unfolding places_refusal range_refusal refusal_of low index_of return_less_one exponent_of least element step modulus
some = refl

-- 4,2,0,1 goes 1, 2, 4, 8, 0, 0: in two places 1, 2, 0, 0, and 4 is no number of two places
even : reply (gen 4 2 0 1) 2 1 ∷ reply (gen 4 2 0 1) 2 2 ∷ reply (gen 4 2 0 1) 2 0 ∷ reply (gen 4 2 0 1) 2 3 ∷ reply (gen 4 2 0 1) 2 4 ∷ reply (gen 4 2 0 1) 4 4 ∷ []
    ≡ once_reply 0 ∷ once_reply 1 ∷ every_reply 2 0 ∷ never_reply ∷ never_reply ∷ once_reply 2 ∷ []
unfolding places_refusal range_refusal refusal_of low index_of return_less_one exponent_of least element step modulus
even = refl

-- 4,6,1,1 goes 1, 7, 11, 3, 3: in two places it rests at index 1 already, and 3 recurs from there
sooner : reply (gen 4 6 1 1) 2 3 ∷ reply (gen 4 6 1 1) 3 7 ∷ reply (gen 4 6 1 1) 3 3 ∷ reply (gen 4 6 1 1) 4 3 ∷ []
    ≡ every_reply 1 0 ∷ once_reply 1 ∷ every_reply 2 0 ∷ every_reply 3 0 ∷ []
unfolding places_refusal range_refusal refusal_of low index_of return_less_one exponent_of least element step modulus
sooner = refl

rests : map (λ m. preperiod_of (low m (element (gen 4 6 1 1))) 16) (1 ∷ 2 ∷ 3 ∷ 4 ∷ []) ≡ 0 ∷ 1 ∷ 2 ∷ 3 ∷ []
unfolding low preperiod_of return_less_one least element step modulus
rests = refl

-- 0 places and more than the width are 9, after 3 and 4
refusals : places_refusal (gen 4 5 3 1) 0 ∷ places_refusal (gen 4 5 3 1) 5 ∷ places_refusal (gen 4 5 3 1) 4 ∷ places_refusal (gen 65 5 3 1) 0
    ∷ places_refusal (gen 0 0 0 0) 0 ∷ places_refusal (gen 4 16 3 1) 5 ∷ places_refusal (gen 4 2 0 1) 5 ∷ []
    ≡ 9 ∷ 9 ∷ 0 ∷ 3 ∷ 4 ∷ 4 ∷ 9 ∷ []
unfolding places_refusal range_refusal refusal_of modulus
refusals = refl

-- at width 0 every number of places is 9
none_at_width_0 : map (places_refusal (gen 0 16807 0 1)) (0 ∷ 1 ∷ 31 ∷ 64 ∷ []) ≡ 9 ∷ 9 ∷ 9 ∷ 9 ∷ []
unfolding places_refusal range_refusal refusal_of modulus
none_at_width_0 = refl

refused : reply (gen 4 2 0 1) 5 1 ≡ refused_reply 9
unfolding places_refusal range_refusal refusal_of modulus
refused = refl
