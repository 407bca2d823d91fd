-- The lanes of a run (document 02, note 10; SCOPE 4.10): lane j of k takes positions j, j + k, j + 2k, .. of the run, as a run of
-- its own.
use Rattle.std.specs.Prelude.{◌≡◌, Bool, true, false, cond, ◌||◌, ◌↔◌, ℕ, zero, suc, ◌+◌, ◌*◌, ◌%◌, ◌<◌, eqb, leb, ltb}
use Rattle.sequences.specs.Distinct.{count_of}
use Rattle.refusals.specs.Refusals.{or_else}
use Rattle.generator.specs.declared.Kind.{Kind}
use Rattle.generator.specs.declared.Kind.TheVariants.{Linear, Prime}
use Rattle.generator.specs.Recurrence.{kind_of, element}
use Rattle.runs.specs.declared.Run.{Run}
use Rattle.runs.specs.Run.{shows, run_refusal}
use Rattle.lines.specs.Line.{line_of}
use Rattle.lines.specs.ReadLine.{accepted_run, run_reply, read_of}
use Rattle.lines.specs.declared.RunReply.{RunReply}
use Rattle.lanes.specs.Rule.{multiplier_of, increment_of, OnlyRule}

-- How many of l positions leave j modulo k.
unfoldable pub lane_count : ℕ → ℕ → ℕ → ℕ
lane_count k l j = count_of (λ p. eqb (p % k) j) l

-- Lane j of k: the rule of k steps from element first + j on.
abbrev pub lane_of : Run → ℕ → ℕ → Run
lane_of run k j =
    record {
      generator =
          record {
            width = run.generator.width;
            multiplier = multiplier_of run.generator k;
            increment = increment_of run.generator k;
            seed = element run.generator (run.first + j);
          };
      first = 0;
      count = lane_count k run.count j;
    }

-- The kinds that have no lanes: the prime-modulus models, at width 0.
abbrev pub without_lanes : Kind → Bool
without_lanes Linear = false
without_lanes Prime = true

-- 15: there are no lanes, more than 16, or more than the run has positions; the lane is none of them; or the kind has none.
abbrev pub lanes_out_of_range : Run → ℕ → ℕ → Bool
lanes_out_of_range run k j =
    eqb k 0 || (ltb 16 k || (ltb run.count k || (leb k j || without_lanes (kind_of run.generator))))

-- The refusal that a lane meets, 0 for none: 3 to 5 of its run, then 15.
unfoldable pub lane_refusal : Run → ℕ → ℕ → ℕ
lane_refusal run k j = or_else (run_refusal run) (cond (lanes_out_of_range run k j) 15 0)

-- What lane j of k is: an accepted run of the same width, whose one step is k steps of the run; which has a position q exactly if
-- the run has the position j + q * k, and shows there what the run shows here.
pub record IsLane (run : Run) (k j : ℕ) (lane : Run) : Type 0 where
  pub accepted : run_refusal lane ≡ 0
  pub width : lane.generator.width ≡ run.generator.width
  pub rule : OnlyRule run.generator k lane.generator.multiplier lane.generator.increment
  pub positions : (q : ℕ) → (q < lane.count) ↔ (j + q * k < run.count)
  pub showing : (q : ℕ) → shows lane q ≡ shows run (j + q * k)

-- Position p of the run falls to position q of lane j, of k.
pub record Falls (run : Run) (k p j q : ℕ) : Type 0 where
  pub lane : j < k
  pub position : q < (lane_of run k j).count
  pub place : p ≡ j + q * k

-- f 0 + f 1 + .. + f (n - 1).
unfoldable pub sum_of : (ℕ → ℕ) → ℕ → ℕ
sum_of f zero = 0
sum_of f (suc n) = sum_of f n + f n

-- The k lanes use up the run: every position of it falls to a lane, and to no other place; every position of every lane is
-- one of the run's; and the counts add up.
pub record UsesUp (run : Run) (k : ℕ) : Type 0 where
  pub all : (p : ℕ) → p < run.count → (j : ℕ) × ((q : ℕ) × Falls run k p j q)
  pub once : {p i q j r : ℕ} → Falls run k p i q → Falls run k p j r → (i ≡ j) × (q ≡ r)
  pub no_others : {p j q : ℕ} → Falls run k p j q → p < run.count
  pub total : sum_of (λ j. (lane_of run k j).count) k ≡ run.count

-- The promise of the call: the reply is the definition's; an accepted one is the lane, whose line reads back as it, and the lanes
-- together use up the run.
pub record LanePromise (run : Run) (k j : ℕ) (reply : RunReply) : Type 0 where
  pub equals : reply ≡ run_reply (lane_refusal run k j) (lane_of run k j)
  pub is_lane : reply.refusal ≡ 0 → IsLane run k j reply.run
  pub uses_up : reply.refusal ≡ 0 → UsesUp run k
  pub reads_back : reply.refusal ≡ 0 → read_of (line_of reply.run) ≡ accepted_run reply.run
