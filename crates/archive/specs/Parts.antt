-- For the functions that go from line to line: the first line of any bytes, and the run of a line.
use Rattle.std.specs.Prelude.{◌≡◌, cond, List, [], ◌∷◌, ℕ, ◌+◌, eqb, length, drop}
use Rattle.runs.specs.Run.{run_refusal}
use Rattle.lines.specs.ReadLine.{run_in, read_of}
use Rattle.archive.specs.Archive.{lines_of}
use Rattle.archive.specs.declared.parts.NextRun.{NextRun}
use Rattle.archive.specs.declared.parts.Place.{Place}

-- the bytes up to and including the first byte 10, or all of them if there is none
unfoldable pub first_part : List ℕ → List ℕ
first_part [] = []
first_part (b ∷ bytes) = b ∷ cond (eqb b 10) [] (first_part bytes)

-- the places of some lines, of which the first starts at `at`
abbrev pub places_from : ℕ → List (List ℕ) → List Place
places_from at [] = []
places_from at (line ∷ lines) = record { start = at; end = at + length line } ∷ places_from (at + length line) lines

-- those of the lines from `at` on
abbrev pub places_left : List ℕ → ℕ → List Place
places_left bytes at = places_from at (lines_of (drop at bytes))

-- none of the lines is refused by `read_line`
abbrev pub AllRead : List (List ℕ) → Type 0
AllRead [] = Unit {0}
AllRead (line ∷ lines) = ((read_of line).refusal ≡ 0) × AllRead lines

-- the run of the line that starts at `at`, which is accepted, and where the line ends
pub record LineRun (bytes : List ℕ) (at : ℕ) (next : NextRun) : Type 0 where
  pub ends : next.end ≡ at + length (first_part (drop at bytes))
  pub is : run_in (first_part (drop at bytes)) ≡ next.run
  pub accepted : run_refusal next.run ≡ 0
