-- Lanes of an accepted call. One step of a lane is k steps of the run, so that its element q is element first + j + q * k of the
-- run's generator: no more is needed for what it shows. It is a linear generator of the same width, and its positions are the run's
-- that leave j modulo k.
use mathlib.Core.Path.{◌≡◌, refl, sym, ap, ◌∙◌, subst}
use Prim.Native.Nat.{ℕ, zero, suc, ◌+◌, ◌*◌, ◌/◌, ◌%◌, ◌^◌, ◌≤◌, ◌<◌}
use native.Mathlib.Nat.{mod-lt}
use native.Mathlib.Omega.{arith}
use borrow.Author.Tests.{ne_eqb, lt-leb}
use Rattle.affine.specs.declared.Affine.{Affine}
use Rattle.sequences.proofs.Gaps.{Steps, stepped_along}
use Rattle.generator.specs.declared.Generator.{Generator}
use Rattle.generator.specs.Recurrence.{modulus, step, element}
use Rattle.generator.specs.Check.{refusal_of}
use Rattle.generator.specs.Linear.{Linear}
use Rattle.generator.proofs.Refusals.{kind_accepted, modulus_linear}
use Rattle.generator.proofs.Elements.{element_start, element_next, element_below}
use Rattle.runs.specs.declared.Run.{Run}
use Rattle.runs.specs.Run.{shows, run_refusal}
use Rattle.lanes.specs.Rule.{steps_from, rule_of}
use Rattle.lanes.specs.Lane.{lane_count, lane_of, IsLane, Falls, UsesUp}
use Rattle.lanes.proofs.Conditions.{ValidLane}
use Rattle.lanes.proofs.Counting.{Ends, count_ends, ends_exactly, count_within, count_total, place_only, place_of}
use Rattle.lanes.proofs.Rules.{alike, multiplier_below, increment_below, only_rule}

-- What a lane shows.
abbrev ruled : Run → ℕ → ℕ → Generator
ruled run k j = (lane_of run k j).generator

module _ (run : Run) (k j : ℕ) (some : 1 ≤ k) where
  own_step : (x : ℕ) → step (ruled run k j) x ≡ steps_from run.generator k x
  unfolding step modulus
  own_step x = alike run.generator k some x

  by_steps : Steps (step run.generator) (element run.generator)
  by_steps = record { step = element_next run.generator }

  own_element : (q : ℕ) → element (ruled run k j) q ≡ element run.generator (run.first + (j + q * k))
  own_element zero = element_start (ruled run k j) ∙ ap (element run.generator) (omega arith)
  own_element (suc q) =
      element_next (ruled run k j) q
      ∙ own_step (element (ruled run k j) q)
      ∙ ap (steps_from run.generator k) (own_element q)
      ∙ stepped_along by_steps (run.first + (j + q * k)) k
      ∙ ap (element run.generator) (omega arith)

  own_shows : (q : ℕ) → shows (lane_of run k j) q ≡ shows run (j + q * k)
  unfolding shows
  own_shows q = ap (element (ruled run k j)) (omega arith) ∙ own_element q

-- It is an accepted run.
module _ {run : Run} {k j : ℕ} (v : ValidLane run k j) where
  some : 1 ≤ k
  some = omega (arith, v.range.lane)

  on_run : j < run.count
  on_run = omega (arith, v.range.lane, v.range.enough)

  -- its positions are those that are on the run
  ends : Ends k run.count j (lane_of run k j).count
  ends = count_ends k run.count j v.range.lane

  below : {x : ℕ} → x < modulus run.generator → x < 2 ^ run.generator.width
  below {x} h = subst (λ (m : ℕ). x < m) (modulus_linear run.generator v.linear.kind) h

  own_linear : Linear (ruled run k j)
  own_linear =
      record {
        kind = v.linear.kind;
        width_low = v.linear.width_low;
        width_high = v.linear.width_high;
        multiplier_below = below (multiplier_below run.generator k some);
        increment_below = below (increment_below run.generator k some);
        seed_below = below (element_below run.generator v.valid.generator (run.first + j));
      }

  own_accepted : refusal_of (ruled run k j) ≡ 0
  own_accepted = kind_accepted (ruled run k j) v.linear.kind v.linear.width_high own_linear

  pub lane_accepted : run_refusal (lane_of run k j) ≡ 0
  unfolding run_refusal
  lane_accepted = rw (own_accepted, ne_eqb (lane_of run k j).count 0 nonzero, lt-leb (2 ^ 64) (0 + (lane_of run k j).count) room)
    where
      some_positions : 1 ≤ (lane_of run k j).count
      some_positions = (ends_exactly ends 0).1 (omega (arith, on_run))

      no_more_positions : (lane_of run k j).count ≤ run.count
      no_more_positions = count_within k run.count j v.range.lane on_run

      nonzero : (lane_of run k j).count ≡ 0 → ⊥
      nonzero e = omega (arith, e, some_positions)

      room : 0 + (lane_of run k j).count < 2 ^ 64
      room = omega (arith, no_more_positions, v.valid.end)

  pub is_lane : IsLane run k j (lane_of run k j)
  is_lane =
      record {
        accepted = lane_accepted;
        width = refl;
        rule = only_rule run.generator k some;
        positions = ends_exactly ends;
        showing = own_shows run k j some;
      }

  pub uses_up : UsesUp run k
  uses_up =
      record {
        all = λ p h. (p % k, (p / k, falls p h));
        once = λ f h. place_only f.lane h.lane (sym f.place ∙ h.place);
        no_others = λ f. inside f;
        total = count_total k run.count some;
      }
    where
      falls : (p : ℕ) → p < run.count → Falls run k p (p % k) (p / k)
      falls p h =
          record {
            lane = mod-lt p some;
            position =
                (ends_exactly (count_ends k run.count (p % k) (mod-lt p some)) (p / k)).1
                (subst (λ (u : ℕ). u < run.count) (place_of k p) h);
            place = place_of k p;
          }

      inside : {p i q : ℕ} → Falls run k p i q → p < run.count
      inside {p} {i} {q} f =
          subst (λ (u : ℕ). u < run.count) (sym f.place)
          ((ends_exactly (count_ends k run.count i f.lane) q).0 f.position)

-- The run that is made of the element, of the rule's two numbers and of the count is the lane.
pub lane_made :
    (run : Run) (k j : ℕ) {rule : Affine} {x l : ℕ} → x ≡ element run.generator (run.first + j) → rule ≡ rule_of run.generator k →
    l ≡ lane_count k run.count j →
    record {
      generator =
          record { width = run.generator.width; multiplier = rule.factor; increment = rule.offset; seed = x };
      first = 0;
      count = l;
    }
    ≡ lane_of run k j
lane_made run k j p q r = rw (p, q, r)
