-- An archive of documents 01 and 02: zero or more lines, one after the other, no two of them equal (SCOPE 5.1).
use Rattle.std.specs.Prelude.{◌≡◌, true, false, List, [], ◌∷◌, ◌++◌, map, ℕ, zero, suc, ◌≤◌, ◌<◌, eqb, length}
use Rattle.runs.specs.declared.Run.{Run}
use Rattle.runs.specs.Run.{run_refusal}
use Rattle.lines.specs.Line.{line_of}
use Rattle.lines.specs.ReadLine.{run_in}

-- A byte in front of some lines.
abbrev pub prepend : ℕ → List (List ℕ) → List (List ℕ)
prepend b [] = (b ∷ []) ∷ []
prepend b (line ∷ lines) = (b ∷ line) ∷ lines

-- The lines of any bytes: each ends with a byte 10, but for what stands behind the last one.
unfoldable pub lines_of : List ℕ → List (List ℕ)
lines_of [] = []
lines_of (b ∷ bytes) = elim (eqb b 10) [ true ↦ (b ∷ []) ∷ lines_of bytes | false ↦ prepend b (lines_of bytes) ]

-- Their runs, if the archive is accepted.
abbrev pub runs_in : List ℕ → List Run
runs_in bytes = map run_in (lines_of bytes)

unfoldable pub archive_of : List Run → List ℕ
archive_of [] = []
archive_of (run ∷ runs) = line_of run ++ archive_of runs

-- None of the conditions on a run applies to any of them.
abbrev pub AllAccepted : List Run → Type 0
AllAccepted [] = Unit
AllAccepted (run ∷ runs) = (run_refusal run ≡ 0) × AllAccepted runs

-- An entry of a list, numbered from 1; what stands in for one that is not there.
unfoldable pub numbered : {A : Type 0} → A → List A → ℕ → A
numbered none xs zero = none
numbered none [] (suc k) = none
numbered none (x ∷ xs) (suc zero) = x
numbered none (x ∷ xs) (suc (suc k)) = numbered none xs (suc k)

-- The line with that number equals an earlier one, byte by byte.
pub record Twin (lines : List (List ℕ)) (late : ℕ) : Type 0 where
  pub early : ℕ
  pub earlier : (0 < early) × (early < late) × (late ≤ length lines)
  pub equal : numbered [] lines early ≡ numbered [] lines late

-- The bytes are an accepted archive, with these runs.
pub record IsArchive (bytes : List ℕ) (runs : List Run) : Type 0 where
  pub short : length bytes ≤ 65536
  pub accepted : AllAccepted runs
  pub lines : bytes ≡ archive_of runs
  pub distinct : (late : ℕ) → Twin (map line_of runs) late → ⊥
