-- Every kind of generator: its elements are below the modulus, equal ones have equal successors, and from one of them on the
-- generator with that element for its seed goes on in the same way. Of the prime-modulus models: their elements are those of
-- `powers`.
use mathlib.Core.Path.{◌≡◌, refl, sym, ap, subst, ◌∙◌}
use Prim.Native.Nat.{ℕ, zero, suc, ◌+◌, ◌*◌, ◌%◌, ◌≤◌, ◌<◌}
use native.Mathlib.Nat.{add-zero, add-suc, mod-lt}
use Rattle.sequences.proofs.Orbits.{Follows}
use Rattle.powers.specs.Prime.{along}
use Rattle.powers.proofs.Sequences.{Multiplies, multiplied, element_low, element_high}
use Rattle.generator.specs.declared.Generator.{Generator}
use Rattle.generator.specs.Recurrence.{kind_of, modulus, step, element}
use Rattle.generator.specs.Check.{refusal_of}
use Rattle.generator.specs.declared.Kind.{Kind}
use Rattle.generator.specs.declared.Kind.TheVariants as kind
use Rattle.generator.specs.Kinds.{IsElement, seeded, Restarted, OfKind}
use Rattle.generator.specs.Prime.{Prime}
use Rattle.generator.proofs.Refusals.{accepted, accepted_width, accepted_kind, kind_accepted, modulus_linear, modulus_prime, modulus_positive}

-- the next element is one step on
pub element_next : (g : Generator) (i : ℕ) → element g (suc i) ≡ step g (element g i)
unfolding element
element_next g i = refl

pub element_start : (g : Generator) → element g 0 ≡ g.seed
unfolding element
element_start g = refl

pub element_follows : (g : Generator) → Follows (element g)
element_follows g = record { next = λ i j e. element_next g i ∙ ap (step g) e ∙ sym (element_next g j) }

pub element_below : (g : Generator) → refusal_of g ≡ 0 → (i : ℕ) → element g i < modulus g
unfolding element step
element_below g e zero = (accepted g e).seed_below
element_below g e (suc i) = mod-lt _ (modulus_positive g)

-- the prime-modulus models: a step multiplies by 16807, and no element is 0
pub prime_step : {g : Generator} → Prime g → (x : ℕ) → step g x ≡ 16807 * x % 2147483647
unfolding step
prime_step {g} p x =
    rw (modulus_prime g p.kind, p.multiplier, p.increment)
    (ap (λ (k : ℕ). k % 2147483647) (add-zero (16807 * x)))

pub prime_multiplies : {g : Generator} → Prime g → Multiplies (element g)
prime_multiplies {g} p =
    record {
      low = rw (element_start g) p.seed_low;
      high = rw (element_start g) p.seed_high;
      next = λ i. element_next g i ∙ prime_step p (element g i);
    }

pub prime_element : {g : Generator} → Prime g → (i : ℕ) → element g i ≡ along g.seed i
prime_element {g} p i = multiplied (prime_multiplies p) i ∙ ap (λ (s : ℕ). along s i) (element_start g)

pub prime_below : {g : Generator} {x : ℕ} → Prime g → IsElement g x → x < 2147483647
prime_below {g} {x} p is =
    subst (λ (u : ℕ). u < 2147483647) is.yields (element_high (prime_multiplies p) is.index)

-- from element i on
module _ (g : Generator) {x : ℕ} where
  seeded_goes_on : (i : ℕ) → element g i ≡ x → (p : ℕ) → element (seeded g x) p ≡ element g (i + p)
  unfolding element step modulus
  seeded_goes_on i e zero = sym e ∙ ap (element g) (sym (add-zero i))
  seeded_goes_on i e (suc p) = ap (step g) (seeded_goes_on i e p) ∙ ap (element g) (sym (add-suc i p))

  -- of the seed the kinds ask only what holds of every element
  seeded_kind : (k : Kind) → kind_of g ≡ k → refusal_of g ≡ 0 → IsElement g x → OfKind (seeded g x) k
  seeded_kind kind.Linear q e is =
      let v = accepted_kind g q e in
      record {
        kind = q;
        width_low = v.width_low;
        width_high = v.width_high;
        multiplier_below = v.multiplier_below;
        increment_below = v.increment_below;
        seed_below =
            rw (modulus_linear g q) at (subst (λ (u : ℕ). u < modulus g) is.yields (element_below g e is.index));
      }
  seeded_kind kind.Prime q e is =
      let v = accepted_kind g q e in
      record {
        kind = q;
        multiplier = v.multiplier;
        increment = v.increment;
        seed_low = subst (λ (u : ℕ). 1 ≤ u) is.yields (element_low (prime_multiplies v) is.index);
        seed_high = prime_below v is;
      }

  seeded_accepted : refusal_of g ≡ 0 → IsElement g x → refusal_of (seeded g x) ≡ 0
  seeded_accepted e is =
      kind_accepted (seeded g x) {k = kind_of g} refl (accepted_width g e) (seeded_kind (kind_of g) refl e is)

  pub restarts : {r : Generator} → (refusal_of g ≡ 0) × IsElement g x → r ≡ seeded g x → Restarted g x r
  restarts h q =
      rw q
      (record { equals = refl; accepted = seeded_accepted h.0 h.1; goes_on = seeded_goes_on })
