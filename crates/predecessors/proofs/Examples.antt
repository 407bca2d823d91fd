-- Small examples of the definitions, computed.
use Rattle.std.proofs.Common.{◌≡◌, ℕ, [], ◌∷◌, map, refl}
use Rattle.generator.specs.declared.Generator.{Generator}
use Rattle.sequences.specs.Least.{least}
use Rattle.generator.specs.Recurrence.{modulus, step}
use Rattle.generator.specs.Check.{refusal_of, parity_refusal}
use Rattle.predecessors.specs.Predecessor.{predecessor_of, predecessor_refusal}

abbrev gen : ℕ → ℕ → ℕ → ℕ → Generator
gen n a c x = record { width = n; multiplier = a; increment = c; seed = x }

prime_predecessors : map (predecessor_refusal (gen 0 16807 0 1)) (0 ∷ 1 ∷ 2147483646 ∷ 2147483647 ∷ []) ≡ 6 ∷ 0 ∷ 0 ∷ 6 ∷ []
unfolding predecessor_refusal refusal_of modulus parity_refusal
prime_predecessors = refl

predecessors : map (predecessor_of (gen 4 5 3 1)) (8 ∷ 11 ∷ 1 ∷ []) ≡ 1 ∷ 8 ∷ 6 ∷ []
unfolding predecessor_of least step modulus
predecessors = refl

-- in the order 3, 4, 6, 7
predecessor_refusals :
    predecessor_refusal (gen 65 99 0 0) 99 ∷ predecessor_refusal (gen 4 16 0 0) 99 ∷ predecessor_refusal (gen 4 2 0 0) 16
    ∷ predecessor_refusal (gen 4 2 0 0) 15 ∷ predecessor_refusal (gen 4 3 0 0) 15 ∷ []
    ≡ 3 ∷ 4 ∷ 6 ∷ 7 ∷ 0 ∷ []
unfolding predecessor_refusal refusal_of modulus parity_refusal
predecessor_refusals = refl
