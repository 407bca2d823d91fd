-- Small examples of the definitions, computed.
use mathlib.Core.Path.{◌≡◌, refl}
use mathlib.Core.List.{[], ◌∷◌, map}
use Prim.Native.Nat.{ℕ}
use Rattle.generator.specs.declared.Generator.{Generator}
use Rattle.generator.specs.Recurrence.{modulus, step, element}
use Rattle.generator.specs.Check.{refusal_of}

abbrev gen : ℕ → ℕ → ℕ → ℕ → Generator
gen n a c x = record { width = n; multiplier = a; increment = c; seed = x }

small : map (element (gen 4 5 3 1)) (0 ∷ 1 ∷ 2 ∷ 3 ∷ 4 ∷ 5 ∷ []) ≡ 1 ∷ 8 ∷ 11 ∷ 10 ∷ 5 ∷ 12 ∷ []
unfolding element step modulus
small = refl

longer : map (element (gen 10 371 995 73)) (100 ∷ 1000 ∷ []) ≡ 49 ∷ 985 ∷ []
unfolding element step modulus
longer = refl

-- the widest: element 1 of 64, 2^64 - 1, 1, 5 is (2^64 - 1) * 5 + 1 = 5 * 2^64 - 4 modulo 2^64
widest : element (gen 64 18446744073709551615 1 5) 1 ≡ 18446744073709551612
unfolding element step modulus
widest = refl

-- accepted; 3 for widths 65 and 2^64 - 1; 4 for an operand of 2^n; 3 before 4, for an operand of 2^65
refusals :
    map refusal_of
    (gen 64 0 0 0 ∷ gen 1 0 0 0 ∷ gen 65 0 0 0 ∷ gen 18446744073709551615 0 0 0 ∷ gen 4 15 15 15
    ∷ gen 4 16 0 0 ∷ gen 4 0 16 0 ∷ gen 4 0 0 16 ∷ gen 65 36893488147419103232 0 0 ∷ [])
    ≡ 0 ∷ 0 ∷ 3 ∷ 3 ∷ 0 ∷ 4 ∷ 4 ∷ 4 ∷ 3 ∷ []
unfolding refusal_of modulus
refusals = refl

-- the prime-modulus models: document 02's elements; 4 for another multiplier, another increment, the seeds 0 and 2147483647;
-- 6 for the predecessor of 0 and of 2147483647
prime_elements : map (element (gen 0 16807 0 1)) (0 ∷ 1 ∷ 2 ∷ []) ≡ 1 ∷ 16807 ∷ 282475249 ∷ []
unfolding element step modulus
prime_elements = refl

prime_refusals :
    map refusal_of
    (gen 0 16807 0 1 ∷ gen 0 16807 0 2147483646 ∷ gen 0 16806 0 1 ∷ gen 0 16807 1 1 ∷ gen 0 16807 0 0
    ∷ gen 0 16807 0 2147483647 ∷ gen 0 0 0 0 ∷ [])
    ≡ 0 ∷ 0 ∷ 4 ∷ 4 ∷ 4 ∷ 4 ∷ 4 ∷ []
unfolding refusal_of modulus
prime_refusals = refl
