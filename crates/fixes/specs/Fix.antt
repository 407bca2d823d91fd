-- The fix call (document 02, note 9; SCOPE 4.9): fix f of a run is two deviates, east of position 2f and north of position 2f + 1.
use Rattle.std.specs.Prelude.{Result, Ok, Err}
use Rattle.refusals.specs.declared.Refusal.{Refusal}
use Rattle.std.specs.Prelude.{◌≡◌, Bool, true, false, cond, ℕ, zero, suc, ◌+◌, ◌*◌, leb, pos, Float}
use Rattle.std.specs.Float.{fin}
use Rattle.refusals.specs.Refusals.{number_of, or_else}
use Rattle.generator.specs.declared.Kind.{Kind}
use Rattle.generator.specs.declared.Kind.TheVariants.{Linear, Prime}
use Rattle.generator.specs.Recurrence.{kind_of}
use Rattle.runs.specs.declared.Run.{Run}
use Rattle.runs.specs.Run.{shows, run_refusal}
use Rattle.fixes.specs.declared.Fix.{Fix}
use Rattle.fixes.specs.declared.FixReply.{FixReply}
use Rattle.fixes.specs.Deviate.{deviate_of, Deviate}

-- The modulus is no power of two: so it is of the prime-modulus models, at width 0.
abbrev pub inexact_kind : Kind → Bool
inexact_kind Linear = false
inexact_kind Prime = true

-- 14 where a deviate would be inexact, then 12 where a position is off the run.
abbrev pub conditions : Bool → Bool → ℕ
conditions inexact off = cond inexact 14 (cond off 12 0)

-- The refusal that a fix meets, 0 for none: 3 to 5 of its run, then 14, then 12 if the later of its positions is none of the run's.
unfoldable pub fix_refusal : Run → ℕ → ℕ
fix_refusal run f =
    or_else (run_refusal run) (conditions (inexact_kind (kind_of run.generator)) (leb run.count (2 * f + 1)))

-- The deviate of what position p shows.
abbrev pub deviate_at : Run → ℕ → Float
deviate_at run p = deviate_of run.generator.width (shows run p)

-- Fix f.
abbrev pub fix_of : Run → ℕ → Fix
fix_of run f = record { east = deviate_at run (2 * f); north = deviate_at run (2 * f + 1) }

-- +0.0 twice.
abbrev pub zeros : Fix
zeros = record { east = fin false 0 (pos 0); north = fin false 0 (pos 0) }

-- The reply for a refusal's number, 0 for none, and a fix: zeros beside a refusal.
abbrev pub fix_reply : ℕ → Fix → FixReply
fix_reply zero fix = record { refusal = 0; fix = fix }
fix_reply (suc n) fix = record { refusal = suc n; fix = zeros }

-- What an answer says.
abbrev pub plain_fix : Result Fix Refusal → FixReply
plain_fix (Ok fix) = record { refusal = 0; fix = fix }
plain_fix (Err r) = record { refusal = number_of r; fix = zeros }

-- The promise of the call: the reply is the definition's, every bit of both floats; and of an accepted one each float is what a
-- deviate is to be.
pub record FixPromise (run : Run) (f : ℕ) (reply : FixReply) : Type 0 where
  pub equals : reply ≡ fix_reply (fix_refusal run f) (fix_of run f)
  pub east : reply.refusal ≡ 0 → Deviate run.generator.width (shows run (2 * f)) reply.fix.east
  pub north : reply.refusal ≡ 0 → Deviate run.generator.width (shows run (2 * f + 1)) reply.fix.north
