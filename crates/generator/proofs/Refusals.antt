-- The refusal table by cases on the kind: a generator of width 64 at most is accepted exactly if it is what its kind asks for.
use mathlib.Core.Path.{◌≡◌, refl, sym, ap, subst, ◌∙◌}
use mathlib.Core.Bool.{Bool, true, false, cond, not, ◌||◌, true≢false}
use Prim.Native.Nat.{ℕ, zero, suc, ◌%◌, ◌^◌, ◌≤◌, ◌<◌}
use native.Mathlib.Omega.{arith}
use lib.Dec.{eqb, leb}
use lib.Pow.{pow_pos, pow_mono}
use borrow.Author.Tests.{eq-eqb, ne_eqb, eqb-true, lt-leb, le-ltb, leb-false, eqb-false, ltb-false}
use Rattle.refusals.proofs.Conditions.{cond_none, or_false}
use Rattle.generator.specs.declared.Generator.{Generator}
use Rattle.generator.specs.declared.Kind.{Kind}
use Rattle.generator.specs.declared.Kind.TheVariants as kind
use Rattle.generator.specs.Recurrence.{kind_at, kind_of, modulus_of, modulus}
use Rattle.generator.specs.Check.{refusal_of, width_refused, operand_refused, parity_refusal}
use Rattle.generator.specs.Kinds.{OfKind, KindIs}

-- The width of each kind.
pub linear_kind : (g : Generator) → 1 ≤ g.width → kind_of g ≡ kind.Linear
linear_kind g = go g.width
  where
    go : (n : ℕ) → 1 ≤ n → kind_at n ≡ kind.Linear
    go zero h = absurd (omega arith)
    go (suc n) h = refl

pub linear_width : (g : Generator) → kind_of g ≡ kind.Linear → 1 ≤ g.width
linear_width g = go g.width
  where
    go : (n : ℕ) → kind_at n ≡ kind.Linear → 1 ≤ n
    go zero h = let z : ◌≡◌ {A = ℕ} 0 1 = cc in absurd (omega arith)
    go (suc n) h = omega arith

pub prime_width : (g : Generator) → kind_of g ≡ kind.Prime → g.width ≡ 0
prime_width g = go g.width
  where
    go : (n : ℕ) → kind_at n ≡ kind.Prime → n ≡ 0
    go zero h = refl
    go (suc n) h = let z : ◌≡◌ {A = ℕ} 0 1 = cc in absurd (omega arith)

-- The modulus of each kind; it is not 0.
pub modulus_linear : (g : Generator) → kind_of g ≡ kind.Linear → modulus g ≡ 2 ^ g.width
unfolding modulus
modulus_linear g e = ap (λ (k : Kind). modulus_of k g.width) e

pub modulus_prime : (g : Generator) → kind_of g ≡ kind.Prime → modulus g ≡ 2147483647
unfolding modulus
modulus_prime g e = ap (λ (k : Kind). modulus_of k g.width) e

pub modulus_positive : (g : Generator) → 1 ≤ modulus g
unfolding modulus
modulus_positive g = go (kind_of g)
  where
    go : (k : Kind) → 1 ≤ modulus_of k g.width
    go kind.Linear = pow_pos g.width
    go kind.Prime = omega arith

-- What the conditions on the operands leave, and that they leave it.
not_false : (b : Bool) → not b ≡ false → b ≡ true
not_false true e = refl
not_false false e = absurd (true≢false e)

operands_fit : (g : Generator) (k : Kind) → kind_of g ≡ k → g.width ≤ 64 → operand_refused k g ≡ false → OfKind g k
operands_fit g kind.Linear q w e =
    record {
      kind = q;
      width_low = linear_width g q;
      width_high = w;
      multiplier_below = below all.0;
      increment_below = below others.0;
      seed_below = below others.1;
    }
  where
    m : ℕ
    m = modulus g

    all : (leb m g.multiplier ≡ false) × ((leb m g.increment || leb m g.seed) ≡ false)
    all = or_false (leb m g.multiplier) (leb m g.increment || leb m g.seed) e

    others : (leb m g.increment ≡ false) × (leb m g.seed ≡ false)
    others = or_false (leb m g.increment) (leb m g.seed) all.1

    below : {u : ℕ} → leb m u ≡ false → u < 2 ^ g.width
    below {u} h = subst (λ (n : ℕ). u < n) (modulus_linear g q) (leb-false _ _ h)
operands_fit g kind.Prime q w e =
    record {
      kind = q;
      multiplier = eqb-true _ _ (not_false (eqb g.multiplier 16807) all.0);
      increment = eqb-true _ _ (not_false (eqb g.increment 0) others.0);
      seed_low = omega (arith, eqb-false g.seed 0 seed.0);
      seed_high = subst (λ (n : ℕ). g.seed < n) (modulus_prime g q) (leb-false _ _ seed.1);
    }
  where
    a : Bool
    a = not (eqb g.multiplier 16807)

    c : Bool
    c = not (eqb g.increment 0)

    x : Bool
    x = eqb g.seed 0 || leb (modulus g) g.seed

    all : (a ≡ false) × ((c || x) ≡ false)
    all = or_false a (c || x) e

    others : (c ≡ false) × (x ≡ false)
    others = or_false c x all.1

    seed : (eqb g.seed 0 ≡ false) × (leb (modulus g) g.seed ≡ false)
    seed = or_false (eqb g.seed 0) (leb (modulus g) g.seed) others.1

fit_operands : (g : Generator) (k : Kind) → OfKind g k → operand_refused k g ≡ false
fit_operands g kind.Linear v =
    simp (test v.multiplier_below, test v.increment_below, test v.seed_below)
  where
    test : {u : ℕ} → u < 2 ^ g.width → leb (modulus g) u ≡ false
    test {u} h = lt-leb _ _ (subst (λ (n : ℕ). u < n) (sym (modulus_linear g v.kind)) h)
fit_operands g kind.Prime v =
    simp (eq-eqb _ _ v.multiplier, eq-eqb _ _ v.increment, ne_eqb g.seed 0 (λ q. omega (arith, v.seed_low)), high)
  where
    high : leb (modulus g) g.seed ≡ false
    high = lt-leb _ _ (subst (λ (n : ℕ). g.seed < n) (sym (modulus_prime g v.kind)) v.seed_high)

-- Accepted is to be what the kind asks for.
module _ (g : Generator) where
  given : refusal_of g ≡ 0 →
      (width_refused g.width ≡ false) × (◌≡◌ {A = ℕ} (cond (operand_refused (kind_of g) g) 4 0) 0)
  unfolding refusal_of
  given e = cond_none (width_refused g.width) 2 (cond (operand_refused (kind_of g) g) 4 0) e

  pub accepted_width : refusal_of g ≡ 0 → g.width ≤ 64
  accepted_width e = ltb-false 64 g.width (given e).0

  pub accepted_kind : {k : Kind} → kind_of g ≡ k → refusal_of g ≡ 0 → OfKind g k
  accepted_kind {k} q e =
      subst (OfKind g) q
      (operands_fit g (kind_of g) refl (accepted_width e) (cond_none (operand_refused (kind_of g) g) 3 0 (given e).1).0)

  pub kind_accepted : {k : Kind} → kind_of g ≡ k → g.width ≤ 64 → OfKind g k → refusal_of g ≡ 0
  unfolding refusal_of
  kind_accepted {k} q w v = rw (le-ltb 64 g.width w, q, fit_operands g k v)

-- what `kind_of` finds, and what that says of an accepted generator
pub kind_is : {g : Generator} {k : Kind} → kind_of g ≡ k → KindIs g k
kind_is {g} e = record { is = e; of_kind = accepted_kind g e }

pub kind_told : {g : Generator} {r k : Kind} → KindIs g r → r ≡ k → refusal_of g ≡ 0 → OfKind g k
kind_told {g} is q z = accepted_kind g (is.is ∙ q) z

-- What holds of every kind: the operands are below the modulus, which fits 65 bits, so that they are 64-bit numbers.
pub record Accepted (g : Generator) : Type 0 where
  pub width_high : g.width ≤ 64
  pub multiplier_below : g.multiplier < modulus g
  pub increment_below : g.increment < modulus g
  pub seed_below : g.seed < modulus g

pub accepted : (g : Generator) → refusal_of g ≡ 0 → Accepted g
accepted g z = go (kind_of g) refl
  where
    go : (k : Kind) → kind_of g ≡ k → Accepted g
    go kind.Linear q =
        let v = accepted_kind g q z in
        record {
          width_high = v.width_high;
          multiplier_below = rw (modulus_linear g q) v.multiplier_below;
          increment_below = rw (modulus_linear g q) v.increment_below;
          seed_below = rw (modulus_linear g q) v.seed_below;
        }
    go kind.Prime q =
        let v = accepted_kind g q z in
        record {
          width_high = accepted_width g z;
          multiplier_below = rw (modulus_prime g q) (omega (arith, v.multiplier));
          increment_below = rw (modulus_prime g q) (omega (arith, v.increment));
          seed_below = rw (modulus_prime g q) v.seed_high;
        }

pub modulus_word : (g : Generator) → refusal_of g ≡ 0 → modulus g ≤ 2 ^ 64
modulus_word g z = go (kind_of g) refl
  where
    go : (k : Kind) → kind_of g ≡ k → modulus g ≤ 2 ^ 64
    go kind.Linear q = rw (modulus_linear g q) (pow_mono (accepted_width g z))
    go kind.Prime q = rw (modulus_prime g q) (omega arith)

-- A multiplier that is not even is odd.
pub parity_odd : (g : Generator) → parity_refusal g ≡ 0 → g.multiplier % 2 ≡ 1
unfolding parity_refusal
parity_odd g e = omega (arith, eqb-false (g.multiplier % 2) 0 (cond_none (eqb (g.multiplier % 2) 0) 6 0 e).0)
