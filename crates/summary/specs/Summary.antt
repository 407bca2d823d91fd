-- The summary of an archive: how many lines it has, and the sum of their counts (document 02, note 6; SCOPE 5.6).
use Rattle.std.specs.Prelude.{◌≡◌, cond, List, [], ◌∷◌, ℕ, zero, suc, ◌+◌, ◌^◌, ◌≤◌, ◌<◌, ltb, length, Result, Ok, Err}
use Rattle.refusals.specs.Refusals.{number_of}
use Rattle.runs.specs.declared.Run.{Run}
use Rattle.archive.specs.declared.LineRefusal.{LineRefusal}
use Rattle.summary.specs.declared.totals.Totals.{Totals}
use Rattle.summary.specs.declared.SummaryReply.{SummaryReply}
use Rattle.archive.specs.Archive.{runs_in, IsArchive}
use Rattle.archive.specs.Check.{check_of}

-- The sum of the runs' counts, whatever its size.
unfoldable pub total_of : List Run → ℕ
total_of [] = 0
total_of (run ∷ runs) = run.count + total_of runs

-- The replies: a refusal's number, 0 for none, and its line; how many lines; the sum.
abbrev pub summary_given : ℕ → ℕ → SummaryReply
summary_given lines total = record { refusal = 0; line = 0; line_count = lines; total = total }

abbrev pub summary_refused : ℕ → ℕ → SummaryReply
summary_refused n line = record { refusal = n; line = line; line_count = 0; total = 0 }

-- What an answer says.
abbrev pub plain_summary : Result Totals LineRefusal → SummaryReply
plain_summary (Ok t) = summary_given t.line_count t.total
plain_summary (Err r) = summary_refused (number_of r.refusal) r.line

-- The summary of some runs. 10, which concerns no line: the sum is above 2^64 − 1.
unfoldable pub runs_summary : List Run → SummaryReply
runs_summary runs = cond (ltb (total_of runs) (2 ^ 64)) (summary_given (length runs) (total_of runs)) (summary_refused 10 0)

-- The summary of any bytes: the check of the archive comes first.
unfoldable pub summary_of : List ℕ → SummaryReply
summary_of bytes =
    elim (check_of bytes).refusal [
      | zero ↦ runs_summary (runs_in bytes)
      | suc n ↦ summary_refused (suc n) (check_of bytes).line
    ]

-- The promise of the call: of an archive how many runs it has and the sum of their counts, or 10; of any other bytes the
-- refusal of the check. What is accepted is an archive.
pub record SummaryPromise (bytes : List ℕ) (reply : SummaryReply) : Type 0 where
  pub equals : reply ≡ summary_of bytes
  pub accepted : reply.refusal ≡ 0 → IsArchive bytes (runs_in bytes)
  pub of_archive :
      (runs : List Run) → IsArchive bytes runs → total_of runs < 2 ^ 64 → reply ≡ summary_given (length runs) (total_of runs)
  pub of_large : (runs : List Run) → IsArchive bytes runs → 2 ^ 64 ≤ total_of runs → reply ≡ summary_refused 10 0
  pub of_others :
      ((runs : List Run) → IsArchive bytes runs → ⊥) →
      (reply ≡ summary_refused (check_of bytes).refusal (check_of bytes).line) × (reply.refusal ≡ 0 → ⊥)
