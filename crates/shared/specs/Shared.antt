-- What two runs share: how many different numbers occur in both (document 02, note 11; SCOPE 4.11).
use Rattle.std.specs.Prelude.{◌≡◌, Bool, cond, not, ◌||◌, ℕ, ◌%◌, eqb}
use Rattle.sequences.specs.Common.{common_of, Common}
use Rattle.generator.specs.declared.Generator.{Generator}
use Rattle.refusals.specs.declared.ValueReply.{ValueReply}
use Rattle.refusals.specs.Refusals.{or_else}
use Rattle.refusals.specs.Replies.{value_reply}
use Rattle.runs.specs.declared.Run.{Run}
use Rattle.runs.specs.Run.{shows, run_refusal}

-- The width, the multiplier or the increment differ, or the multiplier is even. The seeds may differ.
abbrev pub incompatible : Generator → Generator → Bool
incompatible g h =
    not (eqb g.width h.width)
    || (not (eqb g.multiplier h.multiplier)
    || (not (eqb g.increment h.increment) || eqb (g.multiplier % 2) 0))

-- 16, or 0 for none.
unfoldable pub rule_refusal : Generator → Generator → ℕ
rule_refusal g h = cond (incompatible g h) 16 0

-- The refusal that two runs meet, 0 for none: those of the first run, then those of the second, then 16.
unfoldable pub shared_refusal : Run → Run → ℕ
shared_refusal first second =
    or_else (run_refusal first) (or_else (run_refusal second) (rule_refusal first.generator second.generator))

-- Over the positions of the first run that show what no earlier one shows: those whose number a position of the second shows.
unfoldable pub shared_of : Run → Run → ℕ
shared_of first second = common_of (shows first) first.count (shows second) second.count

-- The promise of the call: the reply is the definition's; an accepted one, v, means that there is a list of v numbers, all
-- different, and that a number is in it exactly when a position of the first run and a position of the second show it.
pub record SharedPromise (first second : Run) (reply : ValueReply) : Type 0 where
  pub equals : reply ≡ value_reply (shared_refusal first second) (shared_of first second)
  pub meaning :
      reply.refusal ≡ 0 → Common (shows first) first.count (shows second) second.count reply.value
