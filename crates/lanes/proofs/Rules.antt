-- The rule of k steps, of a generator with any modulus. Not reduced, k steps of "times a, plus c" lead from x to a ^ k * x + B, B being
-- where they lead from 0; reduced at each step, they lead to the same modulo the modulus. So there k steps are a map "times F, plus B":
-- at 0 it gives B, at 1 it gives F + B, and two numbers below the modulus that do the same at 0 and at 1 are these two.
use mathlib.Core.Path.{◌≡◌, refl, sym, ◌∙◌}
use Prim.Native.Nat.{ℕ, zero, suc, ◌+◌, ◌*◌, ◌-◌, ◌%◌, ◌^◌, ◌≤◌, ◌<◌}
use native.Mathlib.Nat.{mod-lt, mod-eq_of_lt, pow-zero, pow-suc}
use native.Mathlib.Omega.{arith}
use Rattle.words.proofs.Congruence.{
  Congruent,
  from_multiples,
  same_refl,
  same_sym,
  same_trans,
  same_regroup,
  same_result,
  same_lower,
  same_mod,
  same_add,
  same_mul,
  same_add_cancel,
  same_below,
}
use Rattle.affine.specs.declared.Affine.{Affine}
use Rattle.affine.specs.Affine.{iterate, Walks}
use Rattle.affine.proofs.Walking.{same_affine}
use Rattle.sequences.specs.Gap.{stepped}
use Rattle.generator.specs.declared.Generator.{Generator}
use Rattle.generator.specs.Recurrence.{modulus, step}
use Rattle.generator.specs.Linear.{Linear}
use Rattle.generator.proofs.Refusals.{modulus_linear, modulus_positive}
use Rattle.lanes.specs.Rule.{steps_from, increment_of, multiplier_of, StepsAlike, OnlyRule, rule_of}

-- steps that are not reduced, from x and from 0
iterate_linear : (a c k x : ℕ) → iterate a c k x ≡ a ^ k * x + iterate a c k 0
unfolding iterate
iterate_linear a c zero x = rw (pow-zero a) (omega arith)
iterate_linear a c (suc k) x = rw (iterate_linear a c k x, pow-suc a k) (omega arith)

module _ (g : Generator) where
  -- reduced at each step or never, it is the same modulo the modulus
  steps_iterate : (k x : ℕ) → Congruent (modulus g) (steps_from g k x) (iterate g.multiplier g.increment k x)
  unfolding stepped iterate step
  steps_iterate zero x = same_refl (modulus g) x
  steps_iterate (suc k) x =
      same_trans (same_mod (modulus g) _) (same_affine g.multiplier g.increment (steps_iterate k x))

  steps_below : (k x : ℕ) → 1 ≤ k → steps_from g k x < modulus g
  unfolding stepped step
  steps_below zero x h = absurd (omega arith)
  steps_below (suc k) x h = mod-lt _ (modulus_positive g)

  start_below : (k : ℕ) → steps_from g k 0 < modulus g
  unfolding stepped
  start_below zero = modulus_positive g
  start_below (suc k) = steps_below (suc k) 0 (omega arith)

-- "Times F, plus B" does what k steps do, modulo the modulus.
record Does (g : Generator) (k F B : ℕ) : Type 0 where
  does : (x : ℕ) → Congruent (modulus g) (steps_from g k x) (F * x + B)

-- its two numbers are those of the definition
module _ {g : Generator} {k F B : ℕ} (d : Does g k F B) where
  from_start : Congruent (modulus g) (steps_from g k 0) B
  from_start = same_regroup (d.does 0) refl (omega arith)

  increment_is : B % modulus g ≡ increment_of g k
  unfolding increment_of
  increment_is = sym from_start.same ∙ mod-eq_of_lt (start_below g k)

  multiplier_is : F % modulus g ≡ multiplier_of g k
  unfolding multiplier_of
  multiplier_is = sym (same_add_cancel with_start from_start).same
    where
      with_start : Congruent (modulus g) (steps_from g k 1 + (modulus g - steps_from g k 0) + steps_from g k 0) (F + B)
      with_start =
          same_trans (from_multiples 0 1 (omega (arith, start_below g k))) (same_regroup (d.does 1) refl (omega arith))

-- and reduced they do the same
definition_does : {g : Generator} {k F B : ℕ} → Does g k F B → Does g k (multiplier_of g k) (increment_of g k)
definition_does {g} {F = F} {B = B} d =
    record {
      does = λ x.
          same_trans (d.does x)
          (same_sym
          (same_add (same_mul (same_result F (sym (multiplier_is d))) (same_refl (modulus g) x)) (same_result B (sym (increment_is d)))));
    }

powers : (g : Generator) (k : ℕ) → Does g k (g.multiplier ^ k) (iterate g.multiplier g.increment k 0)
powers g k =
    record { does = λ x. same_regroup (steps_iterate g k x) refl (iterate_linear g.multiplier g.increment k x) }

-- What the definition's numbers are.
module _ (g : Generator) (k : ℕ) (some : 1 ≤ k) where
  pub alike : StepsAlike g k (multiplier_of g k) (increment_of g k)
  alike x = sym ((definition_does (powers g k)).does x).same ∙ mod-eq_of_lt (steps_below g k x some)

  pub multiplier_below : multiplier_of g k < modulus g
  unfolding multiplier_of
  multiplier_below = mod-lt _ (modulus_positive g)

  pub increment_below : increment_of g k < modulus g
  unfolding increment_of
  increment_below = start_below g k

  -- two numbers that do the same at 0 and at 1 are these
  module _ (b d : ℕ) (same : StepsAlike g k b d) where
    at : (x : ℕ) → Congruent (modulus g) (b * x + d) (multiplier_of g k * x + increment_of g k)
    at x = record { same = same x ∙ sym (alike x) }

    increments : Congruent (modulus g) d (increment_of g k)
    increments = same_regroup (at 0) (omega arith) (omega arith)

    multipliers : Congruent (modulus g) b (multiplier_of g k)
    multipliers = same_add_cancel (same_regroup (at 1) (omega arith) (omega arith)) increments

  pub only_rule : OnlyRule g k (multiplier_of g k) (increment_of g k)
  only_rule =
      record {
        multiplier_below = multiplier_below;
        increment_below = increment_below;
        steps_alike = alike;
        only = λ b d h l same.
            (same_below (multipliers b d same) h multiplier_below, same_below (increments b d same) l increment_below);
      }

-- the low bits of the map of k steps
pub rule_is :
    {g : Generator} {k factor offset : ℕ} {f : Affine} →
    Linear g →
    Walks g.multiplier g.increment k f →
    factor ≡ f.factor % 2 ^ g.width →
    offset ≡ f.offset % 2 ^ g.width →
    record { factor = factor; offset = offset } ≡ rule_of g k
rule_is {g} {k} {f = f} v w p q = rw (p, q, ← modulus_linear g v.kind, multiplier_is map, increment_is map) refl
  where
    map : Does g k f.factor f.offset
    map =
        record {
          does = λ x.
              same_trans (steps_iterate g k x)
              (same_sym (rw (modulus_linear g v.kind) (same_lower g.width v.width_high (record { same = w.walks x }))));
        }
