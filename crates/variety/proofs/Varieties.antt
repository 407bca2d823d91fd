-- The variety of a run, read off an orbit.
use Rattle.std.specs.Prelude.{Ok, Err}
use mathlib.Core.Path.{◌≡◌, sym, ◌∙◌}
use Prim.Native.Nat.{ℕ, suc, ◌+◌, ◌-◌, min}
use Rattle.sequences.specs.declared.Orbit.{Orbit}
use Rattle.sequences.specs.Orbit.{IsOrbit, OrbitIs}
use Rattle.orbits.proofs.Orbits.{has_orbit}
use Rattle.runs.proofs.Runs.{valid_run}
use Rattle.sequences.specs.Distinct.{Distinct}
use Rattle.sequences.proofs.Distinct.{distinct_is, distinct_only, distinct_from}
use Rattle.refusals.specs.declared.Refusal.{Refusal}
use Rattle.generator.specs.Recurrence.{modulus, element}
use Rattle.refusals.specs.Refusals.{number_of}
use Rattle.refusals.specs.Replies.{plain_value}
use Rattle.generator.proofs.Elements.{element_follows}
use Rattle.refusals.proofs.Replies.{number_nonzero, value_refused, value_given}
use Rattle.runs.specs.declared.Run.{Run}
use Rattle.runs.specs.Run.{shows, run_refusal}
use Rattle.variety.specs.Variety.{variety_of, VarietyPromise}

-- the variety, read off the orbit in hand; the promise speaks of any orbit, and so does the law
module _ (run : Run) where
  distinct_by : {t P : ℕ} → IsOrbit (element run.generator) t P →
      Distinct (shows run) run.count (min run.count (t - run.first + P))
  unfolding shows
  distinct_by o = distinct_from (element_follows run.generator) o run.first run.count

  pub variety_is : {o : Orbit} {v : ℕ} → OrbitIs (element run.generator) (modulus run.generator) o →
      v ≡ min run.count (o.preperiod - run.first + suc o.last) → v ≡ variety_of run
  unfolding variety_of
  variety_is is e = e ∙ sym (distinct_is (distinct_by is.orbit))

  pub variety_given : {v : ℕ} → run_refusal run ≡ 0 → v ≡ variety_of run → VarietyPromise run (plain_value (Ok v))
  unfolding variety_of
  variety_given {v} z e =
      record {
        equals = value_given _ z e;
        meaning = λ q. means;
        by_orbit = λ q t P o. distinct_only means (distinct_by o);
      }
    where
      any : (o : Orbit) × OrbitIs (element run.generator) (modulus run.generator) o
      any = has_orbit run.generator (valid_run run z).generator

      means : Distinct (shows run) run.count v
      means = let d = distinct_by any.1.orbit in rw (e ∙ distinct_is d) d

pub variety_refused : (run : Run) (x : Refusal) → number_of x ≡ run_refusal run → VarietyPromise run (plain_value (Err x))
variety_refused run x e =
    record {
      equals = value_refused x _ e;
      meaning = λ z. absurd (number_nonzero x z);
      by_orbit = λ z. absurd (number_nonzero x z);
    }
