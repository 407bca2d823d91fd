-- The variety of a run: how many different numbers it shows (document 02, note 4; SCOPE 4.6).
use Rattle.std.specs.Prelude.{◌≡◌, ℕ, ◌+◌, ◌-◌, min}
use Rattle.sequences.specs.Orbit.{IsOrbit}
use Rattle.sequences.specs.Distinct.{distinct_of, Distinct}
use Rattle.generator.specs.Recurrence.{element}
use Rattle.refusals.specs.declared.ValueReply.{ValueReply}
use Rattle.refusals.specs.Replies.{value_reply}
use Rattle.runs.specs.declared.Run.{Run}
use Rattle.runs.specs.Run.{shows, run_refusal}

-- The number of different values among positions 0 to count − 1.
unfoldable pub variety_of : Run → ℕ
variety_of run = distinct_of (shows run) run.count

-- The promise of the call: the reply is the definition's; an accepted one, v, means that the first v positions show
-- different numbers and every position one of these; and whatever the orbit is, v is the smaller of the count and the sum of
-- the period and what is left of the preperiod at the run's first index (`-` is cut at 0).
pub record VarietyPromise (run : Run) (reply : ValueReply) : Type 0 where
  pub equals : reply ≡ value_reply (run_refusal run) (variety_of run)
  pub meaning : reply.refusal ≡ 0 → Distinct (shows run) run.count reply.value
  pub by_orbit :
      reply.refusal ≡ 0 → (t P : ℕ) → IsOrbit (element run.generator) t P →
      reply.value ≡ min run.count (t - run.first + P)
