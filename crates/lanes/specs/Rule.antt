-- The rule of k steps of a generator: the multiplier and the increment with which one step leads where k steps of the generator
-- lead, from any number (document 02, note 10; SCOPE 4.10).
use Rattle.std.specs.Prelude.{◌≡◌, ℕ, ◌+◌, ◌*◌, ◌-◌, ◌%◌, ◌<◌}
use Rattle.affine.specs.declared.Affine.{Affine}
use Rattle.sequences.specs.Gap.{stepped}
use Rattle.generator.specs.declared.Generator.{Generator}
use Rattle.generator.specs.Recurrence.{modulus, step}

-- k single steps from x.
abbrev pub steps_from : Generator → ℕ → ℕ → ℕ
steps_from g k x = stepped (step g) k x

-- One step from 0 leads to the increment, so that it is where k steps from 0 lead; one step from 1 leads by the multiplier
-- further, modulo the modulus.
unfoldable pub increment_of : Generator → ℕ → ℕ
increment_of g k = steps_from g k 0

unfoldable pub multiplier_of : Generator → ℕ → ℕ
multiplier_of g k = (steps_from g k 1 + (modulus g - steps_from g k 0)) % modulus g

-- One step of "times a, plus c" is k steps of the generator, from every x.
abbrev pub StepsAlike : Generator → ℕ → ℕ → ℕ → Type 0
StepsAlike g k a c = (x : ℕ) → (a * x + c) % modulus g ≡ steps_from g k x

-- a and c are the only numbers below the modulus for which that is so.
pub record OnlyRule (g : Generator) (k a c : ℕ) : Type 0 where
  pub multiplier_below : a < modulus g
  pub increment_below : c < modulus g
  pub steps_alike : StepsAlike g k a c
  pub only : (b d : ℕ) → b < modulus g → d < modulus g → StepsAlike g k b d → (b ≡ a) × (d ≡ c)

-- For a function behind the calls: the two as a map.
abbrev pub rule_of : Generator → ℕ → Affine
rule_of g k = record { factor = multiplier_of g k; offset = increment_of g k }
