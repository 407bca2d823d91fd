-- What the program writes of a run, a chunk at a time (SCOPE 7.4 on).
use Rattle.std.specs.Prelude.{◌≡◌, List, [], ◌∷◌, ◌++◌, ℕ, zero, suc, ◌+◌, ◌-◌, min, take}
use Rattle.fields.specs.Line.{fields_line}
use Rattle.fields.specs.Codec.{FrontWritten}
use Rattle.runs.specs.declared.Run.{Run}
use Rattle.runs.specs.Run.{run_refusal}
use Rattle.remake.specs.Remake.{shown_from}
use Rattle.runshow_text.specs.declared.text.Chunk.{Chunk}

-- Each number as a line of its own.
unfoldable pub numbers_lines : List ℕ → List ℕ
numbers_lines [] = []
numbers_lines (v ∷ vs) = fields_line (v ∷ []) ++ numbers_lines vs

-- What is written of n numbers of a run, from position p on.
abbrev pub text_from : Run → ℕ → ℕ → List ℕ
text_from run p n = numbers_lines (shown_from run p n)

-- How many numbers are to be shown: as many as are asked for and as the run has from this position on; none of a run that is
-- refused.
abbrev pub due_of : ℕ → Run → ℕ → ℕ → ℕ
due_of zero run first many = min many (run.count - first)
due_of (suc n) run first many = 0

abbrev pub part_due : Run → ℕ → ℕ → ℕ
part_due run first many = due_of (run_refusal run) run first many

-- The promise of the chunk that follows so many numbers shown: as many as there is room for and as are still due, from where
-- the last chunk ended on; so what was written before and its bytes are together what is written of the numbers shown then.
pub record ChunkPromise (run : Run) (first many shown room : ℕ) (before after : List ℕ) (chunk : Chunk) : Type 0 where
  pub count : chunk.made ≡ min room (part_due run first many - shown)
  pub written : FrontWritten (text_from run (first + shown) chunk.made) before after chunk.bytes
  pub joined : text_from run first shown ++ take chunk.bytes after ≡ text_from run first (shown + chunk.made)
