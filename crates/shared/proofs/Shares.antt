-- What two runs share, by one search. Both generators have the steps of one rule, so that the laws of two sequences of one step
-- apply. Where the second seed stands at index j of the first generator, both go round one circle, and the second run starts at
-- the place j + (its first index); otherwise the runs are on different circles.
use Rattle.std.specs.Prelude.{Ok, Err}
use mathlib.Core.Path.{◌≡◌, refl, sym, ◌∙◌}
use Prim.Native.Nat.{ℕ, suc, ◌+◌, ◌%◌, ◌≤◌}
use native.Mathlib.Omega.{arith}
use borrow.Author.Tests.{ne_eqb}
use Rattle.words.proofs.Congruence.{Congruent, same_sym, same_trans, same_refl, same_add, same_regroup}
use Rattle.sequences.specs.declared.Indices.{Indices}
use Rattle.sequences.specs.declared.Indices.TheVariants as indices
use Rattle.sequences.specs.Index.{Located, Absent}
use Rattle.sequences.specs.Orbit.{IsOrbit}
use Rattle.sequences.specs.Gap.{Ahead}
use Rattle.sequences.specs.Occurrences.{IndicesAre}
use Rattle.sequences.specs.Distinct.{distinct_of}
use Rattle.sequences.specs.Common.{arcs_share}
use Rattle.sequences.proofs.Gaps.{Steps}
use Rattle.sequences.proofs.Common.{common_is, common_swap, common_self}
use Rattle.sequences.proofs.Arcs.{parts_share, parts_apart}
use Rattle.generator.specs.declared.Generator.{Generator}
use Rattle.generator.specs.Recurrence.{modulus, step, element}
use Rattle.generator.specs.Check.{refusal_of, parity_refusal}
use Rattle.generator.proofs.Elements.{element_next, element_start}
use Rattle.gaps.specs.Gap.{gap_refusal}
use Rattle.gaps.proofs.Gaps.{every_located, other_absent}
use Rattle.orbits.proofs.Orbits.{odd_has_orbit}
use Rattle.refusals.specs.declared.Refusal.{Refusal}
use Rattle.refusals.specs.Refusals.{number_of}
use Rattle.refusals.specs.Replies.{plain_value}
use Rattle.refusals.proofs.Replies.{number_nonzero, value_refused, value_given}
use Rattle.runs.specs.declared.Run.{Run}
use Rattle.runs.specs.Run.{shows}
use Rattle.runs.proofs.Runs.{valid_run}
use Rattle.shared.specs.Shared.{shared_refusal, shared_of, SharedPromise}
use Rattle.shared.proofs.Rules.{same_step, ValidPair, valid_pair, pair_accepted, pair_swapped}

-- a generator with an odd multiplier is one that the gap call accepts
gap_accepts : (g : Generator) → refusal_of g ≡ 0 → g.multiplier % 2 ≡ 1 → gap_refusal g ≡ 0
unfolding gap_refusal parity_refusal
gap_accepts g z odd = rw (z, ne_eqb (g.multiplier % 2) 0 (λ e. omega arith)) refl

-- With b places from the second's first index to the first's, and d from there to the seed's index j, the second run starts d
-- places ahead of the first.
meet : {P s t start other b j d : ℕ} → Congruent P start s → Congruent P other t → Ahead P other start b → Ahead P b j d →
    Congruent P (s + d) (t + j)
meet {P} {d = d} s t back on =
    same_trans (same_add (same_trans (same_sym s) (same_sym back.leads)) (same_refl P d))
    (same_regroup (same_add t on.leads) (omega arith) refl)

module _ (first second : Run) (z : shared_refusal first second ≡ 0) where
  pair : ValidPair first second
  pair = valid_pair first second z

  pub first_accepted : refusal_of first.generator ≡ 0
  first_accepted = (valid_run first pair.one).generator

  -- both have the steps of the first generator
  first_steps : Steps (step first.generator) (element first.generator)
  first_steps = record { step = element_next first.generator }

  second_steps : Steps (step first.generator) (element second.generator)
  second_steps = record { step = λ i. element_next second.generator i ∙ same_step pair.rule _ }

  -- and neither has a preperiod
  first_orbit : (P : ℕ) × IsOrbit (element first.generator) 0 P
  first_orbit = odd_has_orbit first.generator first_accepted pair.rule.odd

  second_orbit : (P : ℕ) × IsOrbit (element second.generator) 0 P
  second_orbit =
      let p = pair_swapped pair in
      odd_has_orbit second.generator (valid_run second p.one).generator p.rule.odd

  first_gap : gap_refusal first.generator ≡ 0
  first_gap = gap_accepts first.generator first_accepted pair.rule.odd

  -- The second seed has no index: nothing is common.
  pub shared_nothing : (r : Indices) → ((k last : ℕ) → r ≡ indices.Every k last → ⊥) →
      IndicesAre (element first.generator) second.generator.seed (modulus first.generator) r →
      0 ≡ shared_of first second
  unfolding shared_of shows
  shared_nothing r t h =
      let none : Absent (element first.generator) (element second.generator 0) =
      rw (element_start second.generator) (other_absent first.generator first_gap _ r t h) in
      sym
      (parts_apart first_steps second_steps first_orbit.1 second_orbit.1 none first.first second.first
      first.count second.count)

  module _ {j last : ℕ}
      (h : IndicesAre (element first.generator) second.generator.seed (modulus first.generator) (indices.Every j last)) where
    found_orbit : IsOrbit (element first.generator) 0 (suc last)
    found_orbit = (every_located first.generator first_gap _ j last h).0

    found_at : Located (element first.generator) second.generator.seed (suc last) j
    found_at = (every_located first.generator first_gap _ j last h).1

    pub index_within : j ≤ last
    index_within = omega (arith, found_at.below)

    -- It has: the runs are arcs of one circle.
    pub shared_arcs : {start other b d v : ℕ} → Congruent (suc last) start first.first →
        Congruent (suc last) other second.first → Ahead (suc last) other start b → Ahead (suc last) b j d →
        v ≡ arcs_share (suc last) first.count d second.count → v ≡ shared_of first second
    unfolding shared_of shows
    shared_arcs s t back on e =
        e
        ∙ sym
        (parts_share first_steps second_steps found_orbit first.first second.first
        (found_at.yields ∙ sym (element_start second.generator)) on.below (meet s t back on)
        first.count second.count)

-- The promise of the call.
pub shared_given : (first second : Run) {v : ℕ} → shared_refusal first second ≡ 0 → v ≡ shared_of first second →
    SharedPromise first second (plain_value (Ok v))
unfolding shared_of
shared_given first second z e =
    record {
      equals = value_given _ z e;
      meaning = λ q. rw e (common_is (shows first) first.count (shows second) second.count);
    }

pub shared_refused : (first second : Run) (x : Refusal) → number_of x ≡ shared_refusal first second →
    SharedPromise first second (plain_value (Err x))
shared_refused first second x e =
    record { equals = value_refused x _ e; meaning = λ z. absurd (number_nonzero x z) }

-- It is the same for the second run and the first, and a run shares with itself all the different numbers that it shows: this is
-- the text of its variety.
pub shared_swap : (first second : Run) → shared_of first second ≡ shared_of second first
unfolding shared_of
shared_swap first second = common_swap (shows first) first.count (shows second) second.count

pub accepted_swap : (first second : Run) → shared_refusal first second ≡ 0 → shared_refusal second first ≡ 0
accepted_swap first second z = pair_accepted second first (pair_swapped (valid_pair first second z))

pub shared_self : (run : Run) → shared_of run run ≡ distinct_of (shows run) run.count
unfolding shared_of
shared_self run = common_self (shows run) run.count
