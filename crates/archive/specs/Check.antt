-- The check of an archive: 1, then line by line (SCOPE 5.2, 6.17).
use Rattle.std.specs.Prelude.{◌≡◌, Bool, true, false, cond, ◌||◌, List, [], ◌∷◌, ℕ, zero, suc, ltb, length, Result, Ok, Err}
use Rattle.refusals.specs.Refusals.{number_of, or_else}
use Rattle.fields.specs.Line.{same_bytes}
use Rattle.runs.specs.declared.Run.{Run}
use Rattle.lines.specs.ReadLine.{read_of}
use Rattle.archive.specs.declared.LineRefusal.{LineRefusal}
use Rattle.archive.specs.Archive.{lines_of, runs_in, Twin, IsArchive}

-- The number and the line of an archive's refusal, both 0 where it is accepted.
pub record CheckReply : Type 0 where
  pub refusal : ℕ
  pub line : ℕ

abbrev pub refused_at : ℕ → ℕ → CheckReply
refused_at n line = record { refusal = n; line = line }

-- What an answer says.
abbrev pub plain_check : Result (Unit {0}) LineRefusal → CheckReply
plain_check (Ok _) = refused_at 0 0
plain_check (Err r) = refused_at (number_of r.refusal) r.line

-- The line is one of these, byte by byte.
unfoldable pub is_among : List ℕ → List (List ℕ) → Bool
is_among line [] = false
is_among line (other ∷ others) = same_bytes other line || is_among line others

-- The number of a line's refusal, 0 for none, given the lines before it: that of the call `read_line`, then 11 if the line
-- equals one of them.
abbrev pub line_refusal : List (List ℕ) → List ℕ → ℕ
line_refusal before line = or_else (read_of line).refusal (cond (is_among line before) 11 0)

-- The first of the lines that is refused, numbered from k on, given the lines before them.
unfoldable pub first_refused : ℕ → List (List ℕ) → List (List ℕ) → CheckReply
first_refused k before [] = refused_at 0 0
first_refused k before (line ∷ lines) =
    elim (line_refusal before line) [ zero ↦ first_refused (suc k) (line ∷ before) lines | suc n ↦ refused_at (suc n) k ]

unfoldable pub check_of : List ℕ → CheckReply
check_of bytes = elim (ltb 65536 (length bytes)) [ true ↦ refused_at 1 0 | false ↦ first_refused 1 [] (lines_of bytes) ]

-- What a refusal, or 0, says: the accepted archives are the lines of accepted runs, none equal to an earlier one, and
-- `runs_in` are these runs.
pub record Accepts (bytes : List ℕ) (refusal : ℕ) : Type 0 where
  pub archive : refusal ≡ 0 → IsArchive bytes (runs_in bytes)
  pub others : (runs : List Run) → IsArchive bytes runs → (refusal ≡ 0) × (runs_in bytes ≡ runs)

-- The promise of the check. 11 comes with the number of a line that equals an earlier one; of several, by `equals`, the first.
pub record CheckPromise (bytes : List ℕ) (reply : CheckReply) : Type 0 where
  pub equals : reply ≡ check_of bytes
  pub meaning : Accepts bytes reply.refusal
  pub twin : reply.refusal ≡ 11 → Twin (lines_of bytes) reply.line
