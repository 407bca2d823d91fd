-- Laws of runs: what the refusal table leaves of an accepted one.
use mathlib.Core.Path.{◌≡◌, sym, ap, ◌∙◌}
use mathlib.Core.Bool.{false, cond}
use Prim.Native.Nat.{ℕ, ◌+◌, ◌^◌, ◌≤◌, ◌<◌}
use native.Mathlib.Omega.{arith}
use lib.Dec.{eqb, leb}
use borrow.Author.Tests.{eqb-false, leb-false}
use Rattle.generator.specs.declared.Generator.{Generator}
use Rattle.generator.specs.Recurrence.{element}
use Rattle.generator.specs.Kinds.{Restarted, seeded}
use Rattle.generator.specs.Check.{refusal_of}
use Rattle.refusals.proofs.Conditions.{cond_none, or_false, or_else_none}
use Rattle.runs.specs.declared.Run.{Run}
use Rattle.runs.specs.Run.{shows, run_refusal, run_out_of_range, FromFirst}

-- an accepted run
pub record ValidRun (run : Run) : Type 0 where
  pub generator : refusal_of run.generator ≡ 0
  pub some : 1 ≤ run.count
  pub end : run.first + run.count < 2 ^ 64

pub valid_run : (run : Run) → run_refusal run ≡ 0 → ValidRun run
unfolding run_refusal
valid_run run e =
    record {
      generator = parts.0;
      some = omega (arith, eqb-false run.count 0 range.0);
      end = leb-false (2 ^ 64) (run.first + run.count) range.1;
    }
  where
    parts : (refusal_of run.generator ≡ 0) × (◌≡◌ {A = ℕ} (cond (run_out_of_range run) 5 0) 0)
    parts = or_else_none (refusal_of run.generator) (cond (run_out_of_range run) 5 0) e

    range : (eqb run.count 0 ≡ false) × (leb (2 ^ 64) (run.first + run.count) ≡ false)
    range =
        or_false (eqb run.count 0) (leb (2 ^ 64) (run.first + run.count))
        (cond_none (run_out_of_range run) 4 0 parts.1).0

-- from its first element on the generator yields what the run shows
pub starts_at : (run : Run) {x : ℕ} {r : Generator} → x ≡ element run.generator run.first →
    Restarted run.generator x r → FromFirst run r
unfolding shows
starts_at run e is =
    record {
      equals = is.equals ∙ ap (seeded run.generator) e;
      accepted = is.accepted;
      yields = is.goes_on run.first (sym e);
    }
