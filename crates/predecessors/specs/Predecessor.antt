-- The predecessor of a number (SCOPE 3.4).
use Rattle.std.specs.Prelude.{◌≡◌, ℕ, ◌<◌, Bool, cond, ◌||◌, ◌==◌, nat_eq, nat_le}
use Rattle.generator.specs.declared.Generator.{Generator}
use Rattle.generator.specs.declared.Kind.{Kind}
use Rattle.generator.specs.declared.Kind.TheVariants.{Linear, Prime}
use Rattle.sequences.specs.Least.{least}
use Rattle.generator.specs.Recurrence.{kind_of, modulus, step}
use Rattle.refusals.specs.Refusals.{or_else}
use Rattle.generator.specs.Check.{refusal_of, parity_refusal}
use Rattle.refusals.specs.declared.ValueReply.{ValueReply}
use Rattle.refusals.specs.Replies.{value_reply}

-- 6, of a linear generator: the number is not below the modulus. Of a prime-modulus model: it is 0, or not below the modulus.
abbrev pub out_of_range : Kind → ℕ → ℕ → Bool
out_of_range Linear m y = nat_le m y
out_of_range Prime m y = y == 0 || nat_le m y

abbrev pub value_out_of_range : Generator → ℕ → Bool
value_out_of_range g y = out_of_range (kind_of g) (modulus g) y

-- After 3 and 4, 6, and after it 7.
unfoldable pub predecessor_refusal : Generator → ℕ → ℕ
predecessor_refusal g y = or_else (refusal_of g) (cond (value_out_of_range g y) 6 (parity_refusal g))

-- The least number below the modulus that one step takes to y.
unfoldable pub predecessor_of : Generator → ℕ → ℕ
predecessor_of g y = least (λ z. nat_eq (step g z) y) (modulus g)

-- z is the only number below the modulus that one step takes to y.
pub record OnlyPredecessor (g : Generator) (y z : ℕ) : Type 0 where
  pub below : z < modulus g
  pub steps : step g z ≡ y
  pub only : (w : ℕ) → w < modulus g → step g w ≡ y → w ≡ z

-- The promise of the call: the reply is the definition's, and an accepted one is the only predecessor.
pub record PredecessorPromise (g : Generator) (y : ℕ) (reply : ValueReply) : Type 0 where
  pub equals : reply ≡ value_reply (predecessor_refusal g y) (predecessor_of g y)
  pub unique : reply.refusal ≡ 0 → OnlyPredecessor g y reply.value
