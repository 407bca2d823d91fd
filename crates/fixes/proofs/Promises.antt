-- The fix call: what its conditions leave of an accepted fix, what the two elements are, and the ways out of the call.
use Rattle.std.specs.Prelude.{Ok, Err}
use mathlib.Core.Path.{◌≡◌, refl, sym, ap, subst, ◌∙◌}
use mathlib.Core.Bool.{Bool, true, false, not, true≢false}
use Prim.Native.Nat.{ℕ, zero, suc, ◌+◌, ◌*◌, ◌^◌, ◌≤◌, ◌<◌}
use native.Mathlib.Omega.{arith}
use lib.Dec.{T, leb}
use lib.IntN.{nat_abs}
use lib.Signed.{non_neg}
use lib.Ieee.{Float, nan, inf, fin, is_nan}
use lib.Ieee.Exact.{HasValue}
use borrow.Author.Tests.{leb-false}
use Rattle.refusals.specs.declared.Refusal.{Refusal}
use Rattle.refusals.specs.Refusals.{number_of}
use Rattle.refusals.proofs.Conditions.{or_else_none}
use Rattle.refusals.proofs.Replies.{number_nonzero, number_suc}
use Rattle.generator.specs.declared.Kind.{Kind}
use Rattle.generator.specs.declared.Kind.TheVariants as kind
use Rattle.generator.specs.Recurrence.{kind_of, step, element}
use Rattle.generator.specs.Kinds.{IsElement}
use Rattle.generator.proofs.Elements.{element_next, element_below}
use Rattle.generator.proofs.Refusals.{accepted_kind, modulus_linear}
use Rattle.runs.specs.declared.Run.{Run}
use Rattle.runs.specs.Run.{shows, run_refusal}
use Rattle.runs.proofs.Runs.{ValidRun, valid_run}
use Rattle.fixes.specs.declared.Fix.{Fix}
use Rattle.fixes.specs.declared.FixReply.{FixReply}
use Rattle.fixes.specs.Deviate.{numerator, denominator, Deviate}
use Rattle.fixes.specs.Fix.{inexact_kind, conditions, fix_refusal, deviate_at, fix_of, fix_reply, plain_fix, FixPromise}
use Rattle.fixes.proofs.ExactDeviates.{deviates}

-- An accepted fix: its run is accepted, the modulus is a power of two, and its later position is on the run.
pub record ValidFix (run : Run) (f : ℕ) : Type 0 where
  pub valid : ValidRun run
  pub width_low : 1 ≤ run.generator.width
  pub width_high : run.generator.width ≤ 64
  pub below : (i : ℕ) → element run.generator i < 2 ^ run.generator.width
  pub later : 2 * f + 1 < run.count

exact_kind : (k : Kind) → inexact_kind k ≡ false → k ≡ kind.Linear
exact_kind kind.Linear e = refl
exact_kind kind.Prime e = absurd (true≢false e)

neither : (a b : Bool) → conditions a b ≡ 0 → (a ≡ false) × (b ≡ false)
neither true true e = absurd (omega arith)
neither true false e = absurd (omega arith)
neither false true e = absurd (omega arith)
neither false false e = (refl, refl)

pub valid_fix : (run : Run) (f : ℕ) → fix_refusal run f ≡ 0 → ValidFix run f
unfolding fix_refusal
valid_fix run f e =
    let g = run.generator in
    let parts = or_else_none (run_refusal run) _ e in
    let behind = neither (inexact_kind (kind_of g)) (leb run.count (2 * f + 1)) parts.1 in
    let linear = exact_kind (kind_of g) behind.0 in
    let valid = valid_run run parts.0 in
    let v = accepted_kind g linear valid.generator in
    record {
      valid = valid;
      width_low = v.width_low;
      width_high = v.width_high;
      below = λ i. subst (λ (m : ℕ). element g i < m) (modulus_linear g linear) (element_below g valid.generator i);
      later = leb-false run.count (2 * f + 1) behind.1;
    }

-- The two elements: that at the position of the first, and the one a step on.
module _ (run : Run) (f : ℕ) {east : ℕ} (is : east ≡ element run.generator (run.first + 2 * f)) where
  pub is_element : IsElement run.generator east
  is_element = record { index = run.first + 2 * f; yields = sym is }

  pub east_shown : east ≡ shows run (2 * f)
  unfolding shows
  east_shown = is

  pub north_shown : {north : ℕ} → north ≡ step run.generator east → north ≡ shows run (2 * f + 1)
  unfolding shows
  north_shown next =
      let behind : suc (run.first + 2 * f) ≡ run.first + (2 * f + 1) = omega arith in
      next
      ∙ ap (step run.generator) is
      ∙ sym (element_next run.generator (run.first + 2 * f))
      ∙ ap (element run.generator) behind

-- what is shown is below 2 ^ width, so that its deviate is exact
pub shown_below : {run : Run} {f : ℕ} {x : ℕ} (p : ℕ) → ValidFix run f → x ≡ shows run p → x < 2 ^ run.generator.width
unfolding shows
shown_below {run} p v e = subst (λ (x : ℕ). x < 2 ^ run.generator.width) (sym e) (v.below (run.first + p))

-- The ways out of the call.
pub fix_refused : (run : Run) (f : ℕ) (x : Refusal) → number_of x ≡ fix_refusal run f → FixPromise run f (plain_fix (Err x))
fix_refused run f x e =
    record {
      equals = let k = number_suc x in rw (← e, k.1);
      east = λ z. absurd (number_nonzero x z);
      north = λ z. absurd (number_nonzero x z);
    }

pub fix_given : (run : Run) (f : ℕ) {fix : Fix} → fix_refusal run f ≡ 0 → fix ≡ fix_of run f → FixPromise run f (plain_fix (Ok fix))
fix_given run f {fix} z e =
    record {
      equals = rw (z, e);
      east = λ _. exact (2 * f) (ap (λ (fix : Fix). fix.east) e);
      north = λ _. exact (2 * f + 1) (ap (λ (fix : Fix). fix.north) e);
    }
  where
    exact : (p : ℕ) {float : Float} → float ≡ deviate_at run p → Deviate run.generator.width (shows run p) float
    exact p is =
        let v = valid_fix run f z in
        rw is (deviates run.generator.width (shows run p) v.width_low (shown_below p v refl))

-- Neither float of a reply is a NaN: beside a refusal they are 0, and otherwise they have a value.
has_number : (x : Float) (s : Bool) (a c : ℕ) → HasValue x s a c → T (not (is_nan x))
unfolding is_nan
has_number nan s a c h = absurd h
has_number (inf t) s a c h = absurd h
has_number (fin t m e) s a c h = tt

deviate_number : (n x : ℕ) {float : Float} → Deviate n x float → T (not (is_nan float))
deviate_number n x {float} d = has_number float (not (non_neg (numerator n x))) (nat_abs (numerator n x)) (denominator n) d.exact

pub numbers : {run : Run} {f : ℕ} {reply : FixReply} → FixPromise run f reply →
    T (not (is_nan reply.fix.east)) × T (not (is_nan reply.fix.north))
unfolding is_nan
numbers {run} {f} {reply} p = by_refusal (fix_refusal run f) p.equals
  where
    by_refusal : (n : ℕ) → reply ≡ fix_reply n (fix_of run f) → T (not (is_nan reply.fix.east)) × T (not (is_nan reply.fix.north))
    by_refusal zero e =
        let z : reply.refusal ≡ 0 = ap (λ (r : FixReply). r.refusal) e in
        (deviate_number _ _ (p.east z), deviate_number _ _ (p.north z))
    by_refusal (suc n) e = rw e (tt, tt)
