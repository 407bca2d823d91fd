-- The call `line` (SCOPE 5.5): a part of the archive itself, the empty part if the archive is refused or has no such line.
use Rattle.std.specs.Prelude.{◌≡◌, true, false, List, [], ◌∷◌, ◌++◌, map, ℕ, zero, suc, ◌+◌, ◌≤◌, eqb, length, take, drop, Option, None, Some}
use Rattle.runs.specs.declared.Run.{Run}
use Rattle.lines.specs.Line.{line_of}
use Rattle.archive_line.specs.declared.Part.{Part}
use Rattle.archive.specs.Archive.{lines_of, archive_of, IsArchive, numbered}
use Rattle.archive.specs.Check.{check_of}

unfoldable pub line_at : List ℕ → ℕ → List ℕ
line_at bytes n = elim (check_of bytes).refusal [ zero ↦ numbered [] (lines_of bytes) n | suc r ↦ [] ]

-- The part of line n among the lines from the k-th on, which starts at `start`; the empty part starts at 0.
unfoldable pub part_from : ℕ → ℕ → ℕ → List (List ℕ) → Part
part_from n k start [] = record { start = 0; length = 0 }
part_from n k start (line ∷ lines) =
    elim (eqb k n) [
      | true ↦ record { start = start; length = length line }
      | false ↦ part_from n (suc k) (start + length line) lines
    ]

unfoldable pub part_of : List ℕ → ℕ → Part
part_of bytes n =
    elim (check_of bytes).refusal [ zero ↦ part_from n 1 0 (lines_of bytes) | suc r ↦ record { start = 0; length = 0 } ]

-- The part that is told: the empty one where there is none.
abbrev pub plain_part : Option Part → Part
plain_part (Some part) = part
plain_part None = record { start = 0; length = 0 }

-- The promise of the call: of an accepted archive the line with that number, of any other bytes the empty part.
pub record LinePromise (bytes : List ℕ) (n : ℕ) (part : List ℕ) : Type 0 where
  pub equals : part ≡ line_at bytes n
  pub of_archive : (runs : List Run) → IsArchive bytes runs → part ≡ numbered [] (map line_of runs) n
  pub of_others : ((runs : List Run) → IsArchive bytes runs → ⊥) → part ≡ []

-- The same part by its start and its length.
pub record PartPromise (bytes : List ℕ) (n : ℕ) (part : Part) : Type 0 where
  pub equals : part ≡ part_of bytes n
  pub inside : part.start + part.length ≤ length bytes
  pub meaning : take part.length (drop part.start bytes) ≡ line_at bytes n
  pub own :
      (before : List Run) (run : Run) (after : List Run) → IsArchive bytes (before ++ (run ∷ after)) → n ≡ suc (length before) →
      (part.start ≡ length (archive_of before)) × (part.length ≡ length (line_of run))
