-- One step is undone by an odd multiplier's inverse, and since an odd factor cancels nothing else steps to the same number. The
-- same holds of 16807 modulo 2147483647.
use Rattle.std.specs.Prelude.{Ok, Err}
use Rattle.std.proofs.Common.{◌≡◌, ℕ, ◌+◌, ◌*◌, ◌%◌, ◌^◌, ◌<◌, false, cond, ◌||◌, eqb, leb, sym, ap, ◌∙◌, lt_of_lt_of_le, le_of_lt, mod-lt, mod-eq_of_lt, arith, pow_pos, pow_mono, eq-eqb, ne_eqb, leb-false}
use Rattle.words.proofs.Congruence.{Congruent, same_refl, same_trans, same_regroup, same_result, same_add, same_scale, same_lower, same_add_cancel, same_below, odd_cancel}
use Rattle.generator.specs.declared.Generator.{Generator}
use Rattle.generator.specs.declared.Kind.{Kind}
use Rattle.generator.specs.declared.Kind.TheVariants as kind
use Rattle.generator.specs.Kinds.{KindIs}
use Rattle.refusals.specs.declared.Refusal.{Refusal}
use Rattle.generator.specs.Recurrence.{kind_of, modulus, step}
use Rattle.generator.specs.Check.{refusal_of, parity_refusal}
use Rattle.refusals.specs.Refusals.{number_of}
use Rattle.refusals.specs.Replies.{plain_value}
use Rattle.generator.specs.Linear.{Linear}
use Rattle.generator.specs.Prime.{Prime}
use Rattle.predecessors.specs.Predecessor.{out_of_range, value_out_of_range, predecessor_refusal, predecessor_of, OnlyPredecessor, PredecessorPromise}
use Rattle.sequences.proofs.Least.{least_unique}
use Rattle.powers.proofs.Multiplying.{steps_apart}
use Rattle.generator.proofs.Refusals.{modulus_linear, modulus_prime, kind_told, parity_odd}
use Rattle.refusals.proofs.Conditions.{cond_none, or_false, or_else_none}
use Rattle.refusals.proofs.Replies.{number_nonzero, value_refused, value_given}
use Rattle.generator.proofs.Walking.{step_linear}
use Rattle.generator.proofs.Elements.{prime_step}

-- the only predecessor is the least number that steps to y
pub only_is_least : {g : Generator} {y z : ℕ} → OnlyPredecessor g y z → predecessor_of g y ≡ z
unfolding predecessor_of
only_is_least {g} {y} {z} o =
    least_unique
    (record {
      within = le_of_lt o.below;
      holds = λ h. eq-eqb (step g z) y o.steps;
      first = λ j h. ne_eqb (step g j) y (λ e. omega (arith, o.only j (omega (arith, o.below)) e));
    })

-- two numbers below the modulus with the same next number are equal
pub step_injective :
    {g : Generator} → Linear g → g.multiplier % 2 ≡ 1 → {z w : ℕ} →
    z < 2 ^ g.width →
    w < 2 ^ g.width →
    step g z ≡ step g w →
    z ≡ w
step_injective {g} v odd {z} {w} hz hw e =
    same_below
    (odd_cancel g.multiplier odd g.width
    (same_add_cancel (record { same = sym (step_linear v z) ∙ e ∙ step_linear v w }) (same_refl _ g.increment)))
    hz
    hw

-- the inverse times y - c, in the low n bits
pub steps_back :
    {g : Generator} (b d : ℕ) {p y z : ℕ} →
    (Linear g) × (g.multiplier % 2 ≡ 1) × (y < 2 ^ g.width) →
    g.multiplier * b % 2 ^ 64 ≡ 1 →
    (d + g.increment) % 2 ^ 64 ≡ y →
    p ≡ b * d % 2 ^ 64 →
    z ≡ p % 2 ^ g.width →
    OnlyPredecessor g y z
steps_back {g} b d {p} {y} {z} pre eb ed ep ez =
    record {
      below = rw whole below;
      steps = steps;
      only = λ w h e. step_injective pre.0 pre.1 (rw whole at h) below (e ∙ sym steps);
    }
  where
    whole : modulus g ≡ 2 ^ g.width
    whole = modulus_linear g pre.0.kind

    a : ℕ
    a = g.multiplier

    P : ℕ
    P = 2 ^ g.width

    low : {u w : ℕ} → Congruent (2 ^ 64) u w → Congruent P u w
    low h = same_lower g.width pre.0.width_high h

    below : z < P
    below = rw ez (mod-lt p (pow_pos g.width))

    high : y < 2 ^ 64
    high = lt_of_lt_of_le pre.2 (pow_mono pre.0.width_high)

    scaled : Congruent P (a * z) d
    scaled =
        same_trans (same_scale a (same_trans (same_result p ez) (low (same_result (b * d) ep))))
        (same_regroup (same_scale {b = 1} d (low (record { same = eb }))) (omega arith) (omega arith))

    steps : step g z ≡ y
    steps =
        step_linear pre.0 z
        ∙ (same_trans (same_add scaled (same_refl P g.increment)) (low (record { same = ed ∙ sym (mod-eq_of_lt high) }))).same
        ∙ mod-eq_of_lt pre.2

-- of a prime-modulus model
pub prime_steps_back : {g : Generator} {y z : ℕ} → (Prime g) × (y < 2147483647) →
    (z < 2147483647) × (16807 * z % 2147483647 ≡ y) → OnlyPredecessor g y z
prime_steps_back {g} {y} {z} pre h =
    record {
      below = rw whole h.0;
      steps = prime_step pre.0 z ∙ h.1;
      only = λ w l e. steps_apart (rw whole at l) h.0 (sym (prime_step pre.0 w) ∙ e ∙ sym h.1);
    }
  where
    whole : modulus g ≡ 2147483647
    whole = modulus_prime g pre.0.kind

-- which numbers are out of range, by the kind
module _ (g : Generator) (y : ℕ) where
  pub range_linear : kind_of g ≡ kind.Linear → leb (2 ^ g.width) y ≡ value_out_of_range g y
  range_linear q =
      ap (λ (m : ℕ). leb m y) (sym (modulus_linear g q)) ∙ ap (λ (k : Kind). out_of_range k (modulus g) y) (sym q)

  pub range_prime : kind_of g ≡ kind.Prime → (eqb y 0 || leb 2147483647 y) ≡ value_out_of_range g y
  range_prime q =
      ap (λ (m : ℕ). eqb y 0 || leb m y) (sym (modulus_prime g q))
      ∙ ap (λ (k : Kind). out_of_range k (modulus g) y) (sym q)

-- what the predecessor's refusals leave
module _ (g : Generator) (y : ℕ) (e : predecessor_refusal g y ≡ 0) where
  both : (refusal_of g ≡ 0) × (cond (value_out_of_range g y) 6 (parity_refusal g) ≡ 0)
  unfolding predecessor_refusal
  both = or_else_none (refusal_of g) (cond (value_out_of_range g y) 6 (parity_refusal g)) e

  fitting : (value_out_of_range g y ≡ false) × (parity_refusal g ≡ 0)
  fitting = cond_none (value_out_of_range g y) 5 (parity_refusal g) both.1

  value_below : (k : Kind) → out_of_range k (modulus g) y ≡ false → y < modulus g
  value_below kind.Linear f = leb-false (modulus g) y f
  value_below kind.Prime f = leb-false (modulus g) y (or_false (eqb y 0) (leb (modulus g) y) f).1

  pub invertible : {k : Kind} → KindIs g k → k ≡ kind.Linear → (Linear g) × (g.multiplier % 2 ≡ 1) × (y < 2 ^ g.width)
  invertible is q =
      let v = kind_told is q both.0 in
      (v, parity_odd g fitting.1, rw (modulus_linear g v.kind) at (value_below (kind_of g) fitting.0))

  pub prime_invertible : {k : Kind} → KindIs g k → k ≡ kind.Prime → (Prime g) × (y < 2147483647)
  prime_invertible is q =
      let v = kind_told is q both.0 in
      (v, rw (modulus_prime g v.kind) at (value_below (kind_of g) fitting.0))

-- the promise of the call, where it refuses and where it answers
pub predecessor_refused :
    (g : Generator) (y : ℕ) (x : Refusal) → number_of x ≡ predecessor_refusal g y →
    PredecessorPromise g y (plain_value (Err x))
predecessor_refused g y x e =
    record { equals = value_refused x _ e; unique = λ z. absurd (number_nonzero x z) }

pub predecessor_given :
    (g : Generator) (y : ℕ) {z : ℕ} → predecessor_refusal g y ≡ 0 → OnlyPredecessor g y z →
    PredecessorPromise g y (plain_value (Ok z))
predecessor_given g y e o =
    record { equals = value_given _ e (sym (only_is_least o)); unique = λ z. o }
