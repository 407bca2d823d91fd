-- The promise of the places call, and that the index call is its case of all n places. What the functions behind the call
-- hand back is the least index and where it lies on the orbit of the low places; all indices that agree, and the definitions,
-- follow from that in any sequence. An odd multiplier has no preperiod in any number of places, an even one the period 1.
use Rattle.orbits.proofs.LowPlaces.{low_follows, low_power, low_odd_orbit, low_even_orbit, all_places}
use Rattle.sequences.specs.Orbit.{IsPower, exponent_of, return_less_one}
use Rattle.sequences.specs.Occurrences.{Alone, Recurring, low}
use mathlib.Core.Path.{◌≡◌, refl, sym, ap, ◌∙◌}
use mathlib.Core.Bool.{Bool, true, false, cond, ◌||◌}
use Prim.Native.Nat.{ℕ, zero, suc, ◌-◌, ◌^◌, ◌≤◌}
use native.Mathlib.Nat.{le_refl}
use native.Mathlib.Omega.{arith}
use lib.Dec.{eqb, ltb}
use lib.Pow.{pow_pos}
use borrow.Author.Tests.{lt-ltb, le-ltb, eqb-false, ltb-false, ne_eqb}
use Rattle.sequences.specs.Index.{index_of, Absent}
use Rattle.sequences.proofs.IndexOf.{located_is, absent_is}
use Rattle.sequences.proofs.Orbits.{exponent_is, orbit_only}
use Rattle.sequences.proofs.Occurrences.{alone_all, alone_return, recurring_all, recurring_return, absent_all, alone_nowhere}
use Rattle.generator.specs.declared.Generator.{Generator}
use Rattle.refusals.specs.declared.Refusal.{Refusal}
use Rattle.generator.specs.Recurrence.{modulus, element}
use Rattle.refusals.specs.Refusals.{number_of}
use Rattle.generator.specs.Check.{refusal_of}
use Rattle.refusals.proofs.Conditions.{cond_none, or_else_none, or_false}
use Rattle.refusals.proofs.Replies.{number_suc, number_nonzero}
use Rattle.low_places.specs.declared.PlacesAnswer.TheVariants as answer
use Rattle.std.specs.Prelude.{Ok, Err}
use Rattle.orbits.specs.Index.{index_reply}
use Rattle.low_places.specs.Places.{
  range_refusal,
  places_refusal,
  once_reply,
  every_reply,
  never_reply,
  places_reply,
  plain_places,
  PlacesPromise,
  index_part,
  IndexIsPlaces,
}

-- what the call accepts
pub places_accepted : (g : Generator) (m : ℕ) → places_refusal g m ≡ 0 → (refusal_of g ≡ 0) × (1 ≤ m) × (m ≤ g.width)
unfolding places_refusal range_refusal
places_accepted g m e = (both.0, omega (arith, eqb-false m 0 range.0), ltb-false g.width m range.1)
  where
    both : (refusal_of g ≡ 0) × (range_refusal g m ≡ 0)
    both = or_else_none _ _ e

    range : (eqb m 0 ≡ false) × (ltb g.width m ≡ false)
    range = or_false (eqb m 0) (ltb g.width m) (cond_none (eqb m 0 || ltb g.width m) 8 0 both.1).0

-- a power of two that is 1
exponent_zero : (e : ℕ) → 2 ^ e ≡ 1 → e ≡ 0
exponent_zero zero h = refl
exponent_zero (suc e) h = absurd (omega (arith, pow_pos e))

-- The promise of the call.
pub places_refused : (g : Generator) (m y : ℕ) (r : Refusal) → number_of r ≡ places_refusal g m →
    PlacesPromise g m y (plain_places (Err r))
places_refused g m y r e =
    record {
      equals = let k = number_suc r in rw (← e, k.1);
      meaning = λ z. absurd (number_nonzero r z);
      goes_on = λ f. absurd (omega arith);
    }

module _ (g : Generator) (m y : ℕ) (z : places_refusal g m ≡ 0) where
  given : (refusal_of g ≡ 0) × (1 ≤ m) × (m ≤ g.width)
  given = places_accepted g m z

  pub every_power : {k last : ℕ} → Recurring (low m (element g)) y (modulus g) k (suc last) → IsPower (suc last)
  every_power r = (low_power g m given r.orbit).0

  pub places_once : {k : ℕ} → Alone (low m (element g)) y (modulus g) k → PlacesPromise g m y (plain_places (Ok (answer.Once k)))
  places_once {k} a =
      let found = lt-ltb k (modulus g) a.located.below in
      let no_other = le-ltb (modulus g) (modulus g) (le_refl _) in
      record {
        equals = rw (z, located_is a.located, alone_return a, found, no_other);
        meaning = λ q. alone_all a (2 ^ 0);
        goes_on =
            λ f.
            record {
              preperiod = a.preperiod;
              period = a.period;
              orbit = a.orbit;
              recurring = (λ r. absurd (omega arith), λ r. absurd (omega (arith, a.before)));
              every = λ r. absurd (omega arith);
              odd = λ p. absurd (alone_nowhere (low_odd_orbit g m given p).1 a);
              even = λ p. refl;
              within = omega arith;
            };
      }

  pub places_every : {k last e : ℕ} → Recurring (low m (element g)) y (modulus g) k (suc last) → e ≡ exponent_of (suc last) →
      PlacesPromise g m y (plain_places (Ok (answer.Every k e)))
  places_every {k} {last} {e} r h =
      record {
        equals = ap (every_reply k) h ∙ sym defined;
        meaning = λ q. rw whole (recurring_all r (low_follows g m given));
        goes_on =
            λ f.
            record {
              preperiod = r.preperiod;
              period = suc last;
              orbit = r.orbit;
              recurring = (λ q. r.reached, λ q. refl);
              every = λ q. whole;
              odd = λ p. refl;
              even = λ p. exponent_zero e (whole ∙ (orbit_only r.orbit (low_even_orbit g m given p).1).1);
              within = rw exact power.1;
            };
      }
    where
      less_one : suc last - 1 ≡ last
      less_one = omega arith

      between : return_less_one (low m (element g)) (modulus g) k ≡ suc last - 1
      between = recurring_return r (low_follows g m given)

      defined :
          places_reply (places_refusal g m) (modulus g) (index_of (low m (element g)) (modulus g) y)
          (return_less_one (low m (element g)) (modulus g) (index_of (low m (element g)) (modulus g) y))
          ≡ every_reply k (exponent_of (suc last))
      defined =
          let found = lt-ltb k (modulus g) r.located.below in
          let again = lt-ltb last (modulus g) (omega (arith, r.room)) in
          rw (z, located_is r.located, between, less_one, found, again)

      power : (p : IsPower (suc last)) × (p.exponent ≤ m)
      power = low_power g m given r.orbit

      exact : e ≡ power.0.exponent
      exact = h ∙ ap exponent_of power.0.power ∙ exponent_is power.0.exponent power.0.small

      whole : 2 ^ e ≡ suc last
      whole = ap (λ (n : ℕ). 2 ^ n) exact ∙ sym power.0.power

  pub places_never : Absent (low m (element g)) y → PlacesPromise g m y (plain_places (Ok answer.Never))
  places_never h =
      record {
        equals = rw (z, absent_is h (modulus g), le-ltb (modulus g) (modulus g) (le_refl _));
        meaning = λ q. absent_all (2 ^ 0) h;
        goes_on = λ f. absurd (omega arith);
      }

-- The index call is the case of all n places.

-- n places are in range
whole_range : (g : Generator) → 1 ≤ g.width → range_refusal g g.width ≡ 0
unfolding range_refusal
whole_range g l =
    simp (
      ne_eqb g.width 0 (λ q. omega arith),
      le-ltb g.width g.width (le_refl _),
    )

-- what the two calls reply for the same index, whatever the next one is
reply_part : (bound k between : ℕ) → index_reply 0 bound k ≡ index_part (places_reply 0 bound k between)
reply_part bound k between = go (ltb k bound) (ltb between bound) (exponent_of (suc between))
  where
    go : (b c : Bool) (e : ℕ) →
        cond b (record { refusal = 0; found = 1; index = k }) (record { refusal = 0; found = 0; index = 0 }) ≡
        index_part (cond b (cond c (every_reply k e) (once_reply k)) never_reply)
    go true true e = refl
    go true false e = refl
    go false c e = refl

pub index_is_places : IndexIsPlaces
unfolding places_refusal
index_is_places g y reply all l i p = i.equals ∙ same (refusal_of g) refl ∙ ap index_part (sym p.equals)
  where
    M : ℕ
    M = modulus g

    whole : ℕ → ℕ
    whole = low g.width (element g)

    same : (u : ℕ) → refusal_of g ≡ u →
        let k = index_of whole M y in
        index_reply (refusal_of g) M (index_of (element g) M y) ≡
        index_part (places_reply (places_refusal g g.width) M k (return_less_one whole M k))
    same zero e =
        rw (e, whole_range g l, ← all_places g e l M y)
        (let k = index_of whole M y in reply_part M k (return_less_one whole M k))
    same (suc u) e = rw e refl
