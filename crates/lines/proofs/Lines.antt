-- Laws of the lines of runs: an accepted run's numbers are 64-bit numbers, and how long its line is.
use mathlib.Core.Path.{◌≡◌}
use mathlib.Core.Logic.{by_cases}
use Prim.Native.Nat.{ℕ, suc, ◌+◌, ◌^◌, ◌≤◌, ◌<◌}
use native.Mathlib.Nat.{lt_of_lt_of_le}
use native.Mathlib.Decide.{dec_lt}
use native.Mathlib.Omega.{arith}
use lib.ListN.{length, length-append}
use Rattle.generator.specs.Recurrence.{modulus}
use Rattle.generator.proofs.Refusals.{Accepted, accepted, modulus_word}
use Rattle.decimals.specs.Digits.{digits_of}
use Rattle.fields.specs.Line.{fields_line}
use Rattle.decimals.proofs.Digits.{digits_length}
use Rattle.runs.specs.declared.Run.{Run}
use Rattle.lines.specs.Line.{line_of, FitsWords}
use Rattle.runs.proofs.Runs.{ValidRun}

-- its six numbers are 64-bit numbers
pub valid_words : {run : Run} → ValidRun run → FitsWords run
valid_words {run} v =
    (omega (arith, g.width_high), (below g.multiplier_below, (below g.increment_below, (below g.seed_below, (omega (arith, v.end), (omega (arith, v.end), tt))))))
  where
    g : Accepted run.generator
    g = accepted run.generator v.generator

    below : {x : ℕ} → x < modulus run.generator → x < 2 ^ 64
    below h = lt_of_lt_of_le h (modulus_word run.generator v.generator)

-- the digits of the six numbers, and a delimiter for each
pub line_length : (run : Run) →
    length (line_of run)
    ≡ length (digits_of run.generator.width) + length (digits_of run.generator.multiplier)
    + length (digits_of run.generator.increment) + length (digits_of run.generator.seed)
    + length (digits_of run.first) + length (digits_of run.count) + 6
unfolding fields_line
line_length run = simp length-append (omega arith)

-- no accepted line is longer than 107 bytes: first and count cannot both have 20 digits
pub line_short : {run : Run} → ValidRun run → length (line_of run) ≤ 107
line_short {run} v =
    by_cases (dec_lt run.first (10 ^ 19)) (λ p. short 18 19 (omega arith) (omega arith) (omega arith))
    (λ p. short 19 18 (omega arith) (omega arith) (omega arith))
  where
    w : FitsWords run
    w = valid_words v

    short : (i j : ℕ) → run.first < 10 ^ suc i → run.count < 10 ^ suc j → i + j ≤ 37 → length (line_of run) ≤ 107
    short i j p q k =
        omega (
          arith,
          line_length run,
          digits_length run.generator.width 1 (omega (arith, (accepted run.generator v.generator).width_high)),
          digits_length run.generator.multiplier 19 (omega (arith, w.1.0)),
          digits_length run.generator.increment 19 (omega (arith, w.1.1.0)),
          digits_length run.generator.seed 19 (omega (arith, w.1.1.1.0)),
          digits_length run.first i p,
          digits_length run.count j q,
        )
