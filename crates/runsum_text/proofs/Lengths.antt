-- How long the text is. A line of the archive has a digit for each of five fields, the digits of its count and six
-- delimiters. Its line of the text has the digits of its number, 19 at most, those of its count and of its variety, which has
-- no more, and three delimiters: so no more than twice the bytes. The total has 20 digits at most.
use mathlib.Core.Path.{◌≡◌, ap}
use mathlib.Core.List.{List, [], ◌∷◌}
use Prim.Native.Nat.{ℕ, suc, ◌+◌, ◌*◌, ◌^◌, ◌≤◌, ◌<◌}
use native.Mathlib.Omega.{arith}
use lib.ListN.{length, length-append}
use Rattle.sequences.proofs.Distinct.{distinct_within}
use Rattle.decimals.specs.Digits.{digits_of}
use Rattle.fields.specs.Line.{fields_line}
use Rattle.decimals.proofs.Digits.{digits_nonempty, digits_length, digits_fewer}
use Rattle.runs.specs.declared.Run.{Run}
use Rattle.runs.specs.Run.{shows}
use Rattle.lines.specs.Line.{line_of}
use Rattle.variety.specs.Variety.{variety_of}
use Rattle.lines.proofs.Lines.{line_length}
use Rattle.archive.specs.Archive.{runs_in, archive_of}
use Rattle.summary.specs.Summary.{total_of}
use Rattle.archive.proofs.Checking.{check_accepts}
use Rattle.summary.proofs.Summaries.{summary_sums}
use Rattle.runsum_text.specs.Text.{run_text, runs_text, total_text, summary_text, TextShort}
use Rattle.runsum_text.proofs.Writing.{runs_first}

-- A run's line of the text, beside its line of the archive.
variety_within : (run : Run) → variety_of run ≤ run.count
unfolding variety_of
variety_within run = distinct_within (shows run) run.count

run_length : (k : ℕ) (run : Run) →
    length (run_text k run)
    ≡ length (digits_of k) + length (digits_of run.count) + length (digits_of (variety_of run)) + 3
unfolding fields_line
run_length k run = simp length-append (omega arith)

-- a line has 11 bytes beside the digits of its count, and more
line_some : (run : Run) → 11 + length (digits_of run.count) ≤ length (line_of run)
line_some run =
    let g = run.generator in
    omega (
      arith,
      line_length run,
      digits_nonempty g.width,
      digits_nonempty g.multiplier,
      digits_nonempty g.increment,
      digits_nonempty g.seed,
      digits_nonempty run.first,
    )

run_short : (k : ℕ) (run : Run) → k < 10 ^ 19 → length (run_text k run) ≤ 2 * length (line_of run)
run_short k run h =
    omega (arith, run_length k run, line_some run, digits_length k 18 h, digits_fewer (variety_within run))

-- The lines of the runs, beside the archive.
runs_few : (runs : List Run) → length runs ≤ length (archive_of runs)
unfolding archive_of
runs_few [] = omega arith
runs_few (run ∷ runs) =
    omega (arith, length-append (line_of run) (archive_of runs), line_some run, runs_few runs)

runs_short : (k : ℕ) (runs : List Run) → k + length runs < 10 ^ 19 → length (runs_text k runs) ≤ 2 * length (archive_of runs)
unfolding archive_of runs_text
runs_short k [] h = omega arith
runs_short k (run ∷ runs) h =
    omega (
      arith,
      length-append (line_of run) (archive_of runs),
      ap length (runs_first k run runs),
      length-append (run_text k run) (runs_text (suc k) runs),
      run_short k run (omega arith),
      runs_short (suc k) runs (omega arith),
    )

-- The total's line.
total_short : (total : ℕ) → total < 2 ^ 64 → length (total_text total) ≤ 27
unfolding fields_line
total_short total h = simp length-append (omega (arith, digits_length total 19 (omega arith)))

-- The whole text: twice the archive's bytes and 27 more at most.
pub text_short : (bytes : List ℕ) → TextShort bytes
unfolding summary_text
text_short bytes none =
    let sums = summary_sums bytes none in
    let is = (check_accepts bytes).archive sums.checked in
    let size = ap length is.lines in
    simp length-append
    (omega (
      arith,
      runs_short 1 (runs_in bytes) (omega (arith, size, is.short, runs_few (runs_in bytes))),
      total_short (total_of (runs_in bytes)) sums.small,
      size,
    ))
