-- The conditions of the two calls: what they leave.
use mathlib.Core.Path.{◌≡◌, refl}
use mathlib.Core.Bool.{Bool, true, false, ◌||◌, true≢false}
use Prim.Native.Nat.{ℕ, zero, suc, ◌≤◌, ◌<◌}
use native.Mathlib.Omega.{arith}
use lib.Dec.{eqb, leb, ltb}
use borrow.Author.Tests.{leb-false, ltb-false}
use Rattle.refusals.proofs.Conditions.{or_false}
use Rattle.generator.specs.declared.Kind.{Kind}
use Rattle.generator.specs.declared.Kind.TheVariants as kind
use Rattle.generator.specs.Recurrence.{kind_of}
use Rattle.generator.specs.Linear.{Linear}
use Rattle.generator.proofs.Refusals.{accepted_kind}
use Rattle.runs.specs.declared.Run.{Run}
use Rattle.runs.specs.Run.{run_refusal}
use Rattle.runs.proofs.Runs.{ValidRun, valid_run}
use Rattle.lanes.specs.Lane.{without_lanes, lanes_out_of_range, lane_refusal}

-- Lanes that a run has, and one of them.
pub record InRange (run : Run) (k j : ℕ) : Type 0 where
  pub few : k ≤ 16
  pub enough : k ≤ run.count
  pub lane : j < k
  pub kind : kind_of run.generator ≡ kind.Linear

with_lanes : (k : Kind) → without_lanes k ≡ false → k ≡ kind.Linear
with_lanes kind.Linear e = refl
with_lanes kind.Prime e = absurd (true≢false e)

module _ (run : Run) (k j : ℕ) where
  in_range : lanes_out_of_range run k j ≡ false → InRange run k j
  in_range e =
      record {
        few = ltb-false 16 k of_number.0;
        enough = ltb-false run.count k of_count.0;
        lane = leb-false k j of_lane.0;
        kind = with_lanes (kind_of run.generator) of_lane.1;
      }
    where
      last : Bool
      last = leb k j || without_lanes (kind_of run.generator)

      of_number : (ltb 16 k ≡ false) × ((ltb run.count k || last) ≡ false)
      of_number = or_false (ltb 16 k) (ltb run.count k || last) (or_false (eqb k 0) (ltb 16 k || (ltb run.count k || last)) e).1

      of_count : (ltb run.count k ≡ false) × (last ≡ false)
      of_count = or_false (ltb run.count k) last of_number.1

      of_lane : (leb k j ≡ false) × (without_lanes (kind_of run.generator) ≡ false)
      of_lane = or_false (leb k j) (without_lanes (kind_of run.generator)) of_count.1

  -- Where nothing is refused, neither condition holds, whichever comes first.
  neither : lane_refusal run k j ≡ 0 → (run_refusal run ≡ 0) × (lanes_out_of_range run k j ≡ false)
  unfolding lane_refusal
  neither e = go (run_refusal run) refl (lanes_out_of_range run k j) refl
    where
      go : (n : ℕ) → run_refusal run ≡ n → (b : Bool) → lanes_out_of_range run k j ≡ b → (run_refusal run ≡ 0) × (lanes_out_of_range run k j ≡ false)
      go zero p false q = (p, q)
      go zero p true q = let refused = simp (p, q) at e in absurd (omega (arith, refused))
      go (suc n) p false q = let refused = simp (p, q) at e in absurd (omega (arith, refused))
      go (suc n) p true q = let refused = simp (p, q) at e in absurd (omega (arith, refused))

-- What no refusal leaves.
pub record ValidLane (run : Run) (k j : ℕ) : Type 0 where
  pub valid : ValidRun run
  pub linear : Linear run.generator
  pub range : InRange run k j

pub valid_lane : (run : Run) (k j : ℕ) → lane_refusal run k j ≡ 0 → ValidLane run k j
valid_lane run k j e =
    let none = neither run k j e in
    let valid = valid_run run none.0 in
    let range = in_range run k j none.1 in
    record { valid = valid; linear = accepted_kind run.generator range.kind valid.generator; range = range }
