-- Reading a line, of any bytes (SCOPE 4.4). It rests on `line_of` alone: the answer is the run whose line the bytes are.
use Rattle.std.specs.Prelude.{Result, Ok, Err}
use Rattle.refusals.specs.declared.Refusal.{Refusal}
use Rattle.std.specs.Prelude.{◌≡◌, true, false, List, ℕ, zero, suc}
use Rattle.fields.specs.Line.{numbers_from, is_line}
use Rattle.refusals.specs.Refusals.{number_of}
use Rattle.runs.specs.declared.Run.{Run}
use Rattle.runs.specs.Run.{run_refusal}
use Rattle.lines.specs.Line.{line_of, run_of, FitsWords, no_run}
use Rattle.lines.specs.declared.RunReply.{RunReply}

-- The reply with a run, and with a refusal's number: beside that the run's six numbers are 0.
abbrev pub accepted_run : Run → RunReply
accepted_run run = record { refusal = 0; run = run }

abbrev pub refused_run : ℕ → RunReply
refused_run n = record { refusal = n; run = no_run }

abbrev pub run_reply : ℕ → Run → RunReply
run_reply zero run = accepted_run run
run_reply (suc n) run = refused_run (suc n)

-- What an answer says.
abbrev pub plain_run : Result Run Refusal → RunReply
plain_run (Ok run) = accepted_run run
plain_run (Err r) = refused_run (number_of r)

-- The run whose line the bytes are, if they are one.
abbrev pub run_in : List ℕ → Run
run_in bytes = run_of (numbers_from 0 bytes)

-- Bytes that are no line are 2; a line gives its run, or 3 to 5.
unfoldable pub read_of : List ℕ → RunReply
read_of bytes =
    elim (is_line 6 bytes) [ true ↦ run_reply (run_refusal (run_in bytes)) (run_in bytes) | false ↦ refused_run 2 ]

-- The bytes are the line of the run.
pub record IsLine (bytes : List ℕ) (run : Run) : Type 0 where
  pub words : FitsWords run
  pub line : bytes ≡ line_of run

-- The promise of the call. What it means: bytes that are a line give its run, or 3 to 5; any others give 2; and an accepted
-- line is the one of the run given; and 3 to 5 are those of the run whose line the bytes are.
pub record ReadPromise (bytes : List ℕ) (reply : RunReply) : Type 0 where
  pub equals : reply ≡ read_of bytes
  pub of_line : (run : Run) → IsLine bytes run → reply ≡ run_reply (run_refusal run) run
  pub of_others : ((run : Run) → IsLine bytes run → ⊥) → reply ≡ refused_run 2
  pub accepted : reply.refusal ≡ 0 → IsLine bytes reply.run
  pub refused :
      (reply.refusal ≡ 0 → ⊥) → (reply.refusal ≡ 2 → ⊥) →
      (run : Run) × (IsLine bytes run × (run_refusal run ≡ reply.refusal))
