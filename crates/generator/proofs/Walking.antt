-- The map of i steps takes the seed to element i: keeping the low bits at each step or once at the end comes to the same.
use mathlib.Core.Path.{◌≡◌, sym, ap, ◌∙◌}
use Prim.Native.Nat.{ℕ, zero, suc, ◌+◌, ◌*◌, ◌%◌, ◌^◌}
use native.Mathlib.Nat.{mod-eq_of_lt}
use Rattle.words.proofs.Congruence.{same_trans, same_result, same_lower}
use Rattle.generator.specs.declared.Generator.{Generator}
use Rattle.affine.specs.declared.Affine.{Affine}
use Rattle.generator.specs.Recurrence.{step, element}
use Rattle.generator.specs.Linear.{Linear, once_of}
use Rattle.affine.specs.Affine.{apply, iterate, Walks}
use Rattle.generator.proofs.Refusals.{modulus_linear}
use Rattle.affine.proofs.Walking.{same_affine}

-- one step of the linear kind
pub step_linear : {g : Generator} → Linear g → (x : ℕ) → step g x ≡ (g.multiplier * x + g.increment) % 2 ^ g.width
unfolding step
step_linear {g} v x = rw (modulus_linear g v.kind)

-- i steps from the seed, reduced once at the end
element_iterate :
    {g : Generator} → Linear g → (i : ℕ) →
    element g i ≡ iterate g.multiplier g.increment i g.seed % 2 ^ g.width
unfolding element iterate
element_iterate v zero = sym (mod-eq_of_lt v.seed_below)
element_iterate {g} v (suc i) =
    step_linear v (element g i)
    ∙ (same_affine g.multiplier g.increment (same_result _ (element_iterate v i))).same

-- the map of i steps at the seed, and then the low bits
pub element_walks :
    {g : Generator} {i x : ℕ} {f : Affine} →
    Linear g →
    Walks g.multiplier g.increment i f →
    x ≡ apply f g.seed % 2 ^ 64 →
    x % 2 ^ g.width ≡ element g i
element_walks {g} {i} v w e =
    (same_lower g.width v.width_high (same_trans (same_result _ e) (record { same = w.walks g.seed }))).same
    ∙ sym (element_iterate v i)

-- the map of one step at any number, and then the low bits
pub next_once :
    {g : Generator} (x : ℕ) {y : ℕ} {f : Affine} →
    Linear g →
    f ≡ once_of g →
    y ≡ apply f x % 2 ^ 64 →
    y % 2 ^ g.width ≡ step g x
next_once {g} x v e h =
    (same_lower g.width v.width_high (same_result _ (h ∙ ap (λ (f : Affine). apply f x % 2 ^ 64) e))).same
    ∙ sym (step_linear v x)
