-- A run of document 01: a generator, a first index and a count (SCOPE 4.1).
use Rattle.std.specs.Prelude.{◌≡◌, Bool, cond, ◌||◌, ℕ, ◌+◌, ◌^◌, eqb, leb}
use Rattle.generator.specs.declared.Generator.{Generator}
use Rattle.generator.specs.Kinds.{seeded}
use Rattle.generator.specs.Recurrence.{element}
use Rattle.refusals.specs.Refusals.{or_else}
use Rattle.generator.specs.Check.{refusal_of}
use Rattle.runs.specs.declared.Run.{Run}

-- What position p shows.
unfoldable pub shows : Run → ℕ → ℕ
shows run p = element run.generator (run.first + p)

-- 5: the count is 0, or first + count is above 2 ^ 64 - 1.
abbrev pub run_out_of_range : Run → Bool
run_out_of_range run = eqb run.count 0 || leb (2 ^ 64) (run.first + run.count)

-- The refusal that a run meets, 0 for none: 3 and 4 of its generator, then 5.
unfoldable pub run_refusal : Run → ℕ
run_refusal run = or_else (refusal_of run.generator) (cond (run_out_of_range run) 5 0)

-- For the functions behind the calls: the generator of an accepted run from its first element on. It yields what the run shows.
pub record FromFirst (run : Run) (r : Generator) : Type 0 where
  pub equals : r ≡ seeded run.generator (element run.generator run.first)
  pub accepted : refusal_of r ≡ 0
  pub yields : (p : ℕ) → element r p ≡ shows run p
