-- The text that the program prints of an accepted archive (document 02, note 6; SCOPE 7.7).
use Rattle.std.specs.Prelude.{◌≡◌, List, [], ◌∷◌, ◌++◌, ℕ, suc, ◌+◌, ◌*◌, ◌≤◌, length}
use Rattle.fields.specs.Line.{fields_line}
use Rattle.fields.specs.Ascii.{ascii}
use Rattle.runs.specs.declared.Run.{Run}
use Rattle.variety.specs.Variety.{variety_of}
use Rattle.archive.specs.Archive.{runs_in}
use Rattle.summary.specs.Summary.{total_of, summary_of}

-- For each run its number, count and variety, the runs numbered from k on.
abbrev pub run_text : ℕ → Run → List ℕ
run_text k run = fields_line (k ∷ run.count ∷ variety_of run ∷ [])

unfoldable pub runs_text : ℕ → List Run → List ℕ
runs_text k [] = []
runs_text k (run ∷ runs) = run_text k run ++ runs_text (suc k) runs

-- And behind them the total.
abbrev pub total_text : ℕ → List ℕ
total_text total = ascii "total," ++ fields_line (total ∷ [])

unfoldable pub summary_text : List ℕ → List ℕ
summary_text bytes = runs_text 1 (runs_in bytes) ++ total_text (total_of (runs_in bytes))

-- How long it can be, so that its space is fixed; `text_short` shows it of any bytes.
abbrev pub TextShort : List ℕ → Type 0
TextShort bytes = (summary_of bytes).refusal ≡ 0 → length (summary_text bytes) ≤ 2 * length bytes + 27
