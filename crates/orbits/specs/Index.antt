-- The least index of a generator that yields a number, or never (SCOPE 3.3; document 02, note 5).
use Rattle.std.specs.Prelude.{◌≡◌, Option, Some, None, Result, Ok, Err, ℕ, zero, suc, ◌≤◌, cond, ◌↔◌, nat_lt}
use Rattle.sequences.specs.Index.{index_of, LeastIndex}
use Rattle.generator.specs.declared.Generator.{Generator}
use Rattle.generator.specs.declared.Kind.TheVariants as kind
use Rattle.generator.specs.Recurrence.{kind_of, modulus, element}
use Rattle.refusals.specs.Refusals.{number_of}
use Rattle.generator.specs.Check.{refusal_of}
use Rattle.refusals.specs.declared.Refusal.{Refusal}
use Rattle.orbits.specs.declared.IndexReply.{IndexReply}

-- The reply for a refusal's number, 0 for none, and an index below the bound, or the bound itself, which stands for never:
-- found is 1 for an index, 0 for never; zeros stand beside never and beside a refusal.
abbrev pub index_reply : ℕ → ℕ → ℕ → IndexReply
index_reply zero bound k =
    cond (nat_lt k bound) (record { refusal = 0; found = 1; index = k }) (record { refusal = 0; found = 0; index = 0 })
index_reply (suc n) bound k = record { refusal = suc n; found = 0; index = 0 }

-- What an answer says.
abbrev pub plain_index : Result (Option ℕ) Refusal → IndexReply
plain_index (Ok (Some k)) = record { refusal = 0; found = 1; index = k }
plain_index (Ok None) = record { refusal = 0; found = 0; index = 0 }
plain_index (Err r) = record { refusal = number_of r; found = 0; index = 0 }

-- The promise of the call: the reply is the definition's, and an accepted one meets demand 3; of a prime-modulus model the numbers
-- from 1 to 2147483646 are found, and no others.
pub record IndexPromise (g : Generator) (y : ℕ) (reply : IndexReply) : Type 0 where
  pub equals : reply ≡ index_reply (refusal_of g) (modulus g) (index_of (element g) (modulus g) y)
  pub meaning : reply.refusal ≡ 0 → LeastIndex (element g) y reply.found reply.index
  pub prime : reply.refusal ≡ 0 → kind_of g ≡ kind.Prime → (reply.found ≡ 1) ↔ ((1 ≤ y) × (y ≤ 2147483646))
