-- Writing a run's line into a buffer (SCOPE 4.5).
use Rattle.std.specs.Prelude.{◌≡◌, cond, List, ◌++◌, ℕ, zero, suc, ltb, length, drop}
use Rattle.refusals.specs.Refusals.{or_else}
use Rattle.refusals.specs.declared.ValueReply.{ValueReply}
use Rattle.refusals.specs.Replies.{value_reply}
use Rattle.runs.specs.declared.Run.{Run}
use Rattle.runs.specs.Run.{run_refusal}
use Rattle.lines.specs.Line.{line_of}

-- After 3 to 5, 8: the buffer is shorter than the line.
unfoldable pub write_refusal : Run → List ℕ → ℕ
write_refusal run buffer = or_else (run_refusal run) (cond (ltb (length buffer) (length (line_of run))) 8 0)

-- What the buffer holds after the call: the line and, behind it, what stood there; all of what stood there beside a refusal.
abbrev pub buffer_after : ℕ → Run → List ℕ → List ℕ
buffer_after zero run buffer = line_of run ++ drop (length (line_of run)) buffer
buffer_after (suc n) run buffer = buffer

-- The promise of the call: the reply with the number of bytes, and the whole buffer.
pub record WritePromise (run : Run) (before after : List ℕ) (reply : ValueReply) : Type 0 where
  pub equals : reply ≡ value_reply (write_refusal run before) (length (line_of run))
  pub buffer : after ≡ buffer_after (write_refusal run before) run before
