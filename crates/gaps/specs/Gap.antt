-- The signed number of steps between two numbers of a generator (document 02, note 1; SCOPE 3.7).
use Rattle.std.specs.Prelude.{◌≡◌, Option, Some, None, Result, Ok, Err, Bool, cond, ◌&&◌, ℕ, zero, suc, ℤ, pos}
use Rattle.sequences.specs.Orbit.{period_of}
use Rattle.sequences.specs.Index.{occurs}
use Rattle.sequences.specs.Gap.{steps_of, SignedSteps}
use Rattle.generator.specs.declared.Generator.{Generator}
use Rattle.generator.specs.Recurrence.{modulus, step, element}
use Rattle.refusals.specs.Refusals.{number_of, or_else}
use Rattle.generator.specs.Check.{refusal_of, parity_refusal}
use Rattle.refusals.specs.declared.Refusal.{Refusal}
use Rattle.gaps.specs.declared.GapReply.{GapReply}

-- 3 and 4, and after them 7.
unfoldable pub gap_refusal : Generator → ℕ
gap_refusal g = or_else (refusal_of g) (parity_refusal g)

-- The period that the definition of the orbit finds.
unfoldable pub period : Generator → ℕ
period g = period_of (element g) (modulus g)

-- The reply for a refusal's number, 0 for none, whether both numbers occur, and a count of steps: found is 1 for a count, 0 for
-- never; zeros stand beside never and beside a refusal.
abbrev pub gap_reply : ℕ → Bool → ℤ → GapReply
gap_reply zero both d =
    cond both (record { refusal = 0; found = 1; steps = d }) (record { refusal = 0; found = 0; steps = pos 0 })
gap_reply (suc n) both d = record { refusal = suc n; found = 0; steps = pos 0 }

-- What an answer says.
abbrev pub plain_gap : Result (Option ℤ) Refusal → GapReply
plain_gap (Ok (Some d)) = record { refusal = 0; found = 1; steps = d }
plain_gap (Ok None) = record { refusal = 0; found = 0; steps = pos 0 }
plain_gap (Err r) = record { refusal = number_of r; found = 0; steps = pos 0 }

-- The promise of the call: the reply is the definition's, and an accepted one means what note 1 asks for.
pub record GapPromise (g : Generator) (from to : ℕ) (reply : GapReply) : Type 0 where
  pub equals :
      reply ≡
      gap_reply (gap_refusal g) (occurs (element g) (period g) from && occurs (element g) (period g) to)
      (steps_of (element g) (period g) from to)
  pub meaning : reply.refusal ≡ 0 → SignedSteps (step g) (element g) (period g) from to reply.found reply.steps
