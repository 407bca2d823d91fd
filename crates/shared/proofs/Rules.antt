-- Two runs of one rule: what the refusal table leaves of them. Whichever of the two comes first, they are accepted.
use mathlib.Core.Path.{◌≡◌, refl, sym, ap, ◌∙◌}
use mathlib.Core.Bool.{Bool, true, false, not}
use mathlib.Core.Logic.{⊎_elim}
use Prim.Native.Nat.{ℕ, ◌%◌}
use native.Mathlib.Omega.{arith}
use lib.Dec.{eqb}
use borrow.Author.Tests.{eq-eqb, ne_eqb, eqb-true, eqb-false}
use Rattle.words.proofs.Congruence.{mod_two}
use Rattle.refusals.proofs.Conditions.{cond_none, or_false, or_else_none}
use Rattle.generator.specs.declared.Generator.{Generator}
use Rattle.generator.specs.Recurrence.{modulus, step}
use Rattle.runs.specs.declared.Run.{Run}
use Rattle.runs.specs.Run.{run_refusal}
use Rattle.shared.specs.Shared.{incompatible, rule_refusal, shared_refusal}

-- one rule, with an odd multiplier
pub record OneRule (g h : Generator) : Type 0 where
  pub width : g.width ≡ h.width
  pub multiplier : g.multiplier ≡ h.multiplier
  pub increment : g.increment ≡ h.increment
  pub odd : g.multiplier % 2 ≡ 1

-- the parity by the remainder
pub not_even : (a : ℕ) → (a % 2 ≡ 0 → ⊥) → a % 2 ≡ 1
not_even a d = ⊎_elim (λ z. absurd (d z)) (λ z. z) (mod_two a)

module _ (g h : Generator) where
  not_equal : (u v : ℕ) → not (eqb u v) ≡ false → u ≡ v
  not_equal u v e = eqb-true u v (twice (eqb u v) e)
    where
      twice : (b : Bool) → not b ≡ false → b ≡ true
      twice true q = refl
      twice false q = sym q

  compatible : incompatible g h ≡ false → OneRule g h
  compatible e =
      let w = or_false _ _ e in
      let a = or_false _ _ w.1 in
      let c = or_false _ _ a.1 in
      record {
        width = not_equal _ _ w.0;
        multiplier = not_equal _ _ a.0;
        increment = not_equal _ _ c.0;
        odd = not_even g.multiplier (eqb-false (g.multiplier % 2) 0 c.1);
      }

  pub rule_of_lem : rule_refusal g h ≡ 0 → OneRule g h
  unfolding rule_refusal
  rule_of_lem e = compatible (cond_none (incompatible g h) 15 0 e).0

  pub rule_accepted : OneRule g h → 0 ≡ rule_refusal g h
  unfolding rule_refusal
  rule_accepted r =
      rw (eq-eqb _ _ r.width, eq-eqb _ _ r.multiplier, eq-eqb _ _ r.increment, ne_eqb (g.multiplier % 2) 0 (λ z. omega (arith, r.odd)))
      refl

-- one rule has one step
pub same_step : {g h : Generator} → OneRule g h → (x : ℕ) → step h x ≡ step g x
unfolding step modulus
same_step r x = rw (r.width, r.multiplier, r.increment) refl

-- two accepted runs
pub record ValidPair (first second : Run) : Type 0 where
  pub one : run_refusal first ≡ 0
  pub other : run_refusal second ≡ 0
  pub rule : OneRule first.generator second.generator

pub valid_pair : (first second : Run) → shared_refusal first second ≡ 0 → ValidPair first second
unfolding shared_refusal
valid_pair first second e =
    let a = or_else_none _ _ e in
    let b = or_else_none _ _ a.1 in
    record { one = a.0; other = b.0; rule = rule_of_lem _ _ b.1 }

pub pair_accepted : (first second : Run) → ValidPair first second → shared_refusal first second ≡ 0
unfolding shared_refusal
pair_accepted first second v = rw (v.one, v.other, ← rule_accepted _ _ v.rule) refl

-- and the other way round
pub pair_swapped : {first second : Run} → ValidPair first second → ValidPair second first
pair_swapped v =
    let r = v.rule in
    record {
      one = v.other;
      other = v.one;
      rule =
          record {
            width = sym r.width;
            multiplier = sym r.multiplier;
            increment = sym r.increment;
            odd = ap (λ (a : ℕ). a % 2) (sym r.multiplier) ∙ r.odd;
          };
    }
