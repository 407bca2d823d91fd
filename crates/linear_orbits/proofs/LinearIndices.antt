-- The indices at which the low m places of a linear generator's elements are a given number. With an odd multiplier they are
-- read off the search, stopped at m places. With an even one the low places of the elements up to index m are passed, and
-- every value of theirs is among these; what comes again stays, so the next element tells how it goes on.
use Rattle.std.proofs.Common.{◌≡◌, ℕ, suc, ◌+◌, ◌*◌, ◌%◌, ◌^◌, ◌<◌, ◌≤◌, sym, ap, ◌∙◌, subst, lt_of_lt_of_le, lt_of_le_of_lt, lt_of_not-le, add-one, arith, below_more}
use native.Mathlib.Decide.{dec_le}
use Rattle.words.proofs.Congruence.{Congruent, same_refl, same_sym, same_trans, same_mod, same_add, same_scale, mod_lower}
use Rattle.sequences.specs.Index.{Located, Absent}
use Rattle.sequences.specs.Orbit.{IsOrbit}
use Rattle.sequences.specs.Places.{Settles}
use Rattle.sequences.specs.Occurrences.{low, Recurring, IndicesAre}
use Rattle.sequences.proofs.LowPlaces.{low_is, contracting_follows, low_rest, low_recurring}
use Rattle.sequences.proofs.Occurrences.{stays_recurring, moves_alone}
use Rattle.sequences.proofs.Orbits.{Follows, orbit_never}
use Rattle.generator.specs.declared.Generator.{Generator}
use Rattle.generator.specs.Recurrence.{modulus, element}
use Rattle.affine.specs.declared.Affine.{Affine}
use Rattle.generator.specs.Linear.{Linear, once_of}
use Rattle.affine.specs.Affine.{apply}
use Rattle.generator.proofs.Elements.{element_start}
use Rattle.sequences.specs.declared.Indices.TheVariants.{Once, Every}
use Rattle.linear_orbits.proofs.Elements.{isometric, contracting, next_place}
use Rattle.words.proofs.PowersOfTwo.{lt_two_pow}
use Rattle.linear_orbits.proofs.LinearOrbits.{places_room}

-- what the search hands back, once m places are settled
pub settled_every : {g : Generator} {m y p k e last : ℕ} →
    (Linear g) × (g.multiplier % 2 ≡ 1) × (m ≤ g.width) × (y < 2 ^ m) → Settles (element g) y m p k e → m ≤ p →
    last + 1 ≡ 2 ^ e → IndicesAre (low m (element g)) y (modulus g) (Every k last)
settled_every {g} {m} {y} {k = k} {e} {last} pre s all q =
    subst (Recurring (low m (element g)) y (modulus g) k) (let t : 2 ^ e ≡ suc last = omega (arith, q) in t)
    (low_recurring m pre.2 s (isometric pre.0 pre.1) all pre.3 (places_room pre.0 pre.2)).1

-- the map of one step, as the machine reckons modulo 2 ^ 64, in m places
pub low_once : {once : Affine} {r : ℕ} (g : Generator) (m x : ℕ) → m ≤ 64 → once ≡ once_of g →
    r ≡ apply once x % 2 ^ 64 → r % 2 ^ m ≡ (g.multiplier * x + g.increment) % 2 ^ m
low_once g m x l eo er = rw (er, eo) (mod_lower 64 m (apply (once_of g) x) l)

-- a step of the low places
low_step : {g : Generator} {m x after : ℕ} (i : ℕ) → Linear g → m ≤ g.width → x ≡ low m (element g) i →
    after ≡ (g.multiplier * x + g.increment) % 2 ^ m → after ≡ low m (element g) (suc i)
low_step {g} {m} {x} i v l held e = e ∙ same.same ∙ sym (low_is m (element g) (suc i))
  where
    here : Congruent (2 ^ m) x (element g i)
    here = rw (held, low_is m (element g) i) (same_mod (2 ^ m) (element g i))

    same : Congruent (2 ^ m) (g.multiplier * x + g.increment) (element g (suc i))
    same = same_trans (same_add (same_scale g.multiplier here) (same_refl _ g.increment)) (same_sym (next_place v m i l))

-- What the loop over the elements of an even multiplier holds: y is none of the first i, in m places.
pub record Passing (g : Generator) (m y x i : ℕ) : Type 0 where
  pub within : i ≤ m + 1
  pub held : x ≡ low m (element g) i
  pub passed : (j : ℕ) → j < i → low m (element g) j ≡ y → ⊥

pub passing_start : (g : Generator) (m y : ℕ) {x : ℕ} → x ≡ g.seed % 2 ^ m → Passing g m y x 0
passing_start g m y e =
    record {
      within = omega arith;
      held = e ∙ ap (λ (u : ℕ). u % 2 ^ m) (sym (element_start g)) ∙ sym (low_is m (element g) 0);
      passed = λ j l. absurd (omega arith);
    }

module _ {g : Generator} {m y x i : ℕ}
    (pre : (Linear g) × (g.multiplier % 2 ≡ 0) × (1 ≤ m) × (m ≤ g.width)) (p : Passing g m y x i) where
  passing_rest : (t : ℕ) × ((t ≤ m) × IsOrbit (low m (element g)) t 1)
  passing_rest = low_rest m pre.3 (contracting pre.0 pre.1)

  passing_follows : Follows (low m (element g))
  passing_follows = contracting_follows m pre.3 (contracting pre.0 pre.1)

  passing_room : m < modulus g
  passing_room = lt_of_lt_of_le (lt_two_pow m) (places_room pre.0 pre.3)

  passing_rest_room : passing_rest.0 < modulus g
  passing_rest_room = lt_of_le_of_lt passing_rest.1.0 passing_room

  pub passing_never : m < i → Absent (low m (element g)) y
  passing_never l =
      record { none = orbit_never passing_follows passing_rest.1.1 (λ j b. p.passed j (omega (arith, passing_rest.1.0))) }

  module _ {after : ℕ} (l : i ≤ m) (e : after ≡ (g.multiplier * x + g.increment) % 2 ^ m) where
    passing_after : after ≡ low m (element g) (suc i)
    passing_after = low_step i pre.0 pre.3 p.held e

    passing_found : x ≡ y → Located (low m (element g)) y (modulus g) i
    passing_found q =
        record {
          below = lt_of_le_of_lt l passing_room;
          yields = sym p.held ∙ q;
          first = λ j h. elim (dec_le i j) [ yes b ↦ b | no f ↦ absurd (p.passed j (lt_of_not-le f) h) ];
        }

    pub passing_stays : x ≡ y → after ≡ y → IndicesAre (low m (element g)) y (modulus g) (Every i 0)
    passing_stays q a = stays_recurring passing_rest.1.1 passing_rest_room (passing_found q) (sym passing_after ∙ a)

    pub passing_moves : x ≡ y → (after ≡ y → ⊥) → IndicesAre (low m (element g)) y (modulus g) (Once i)
    passing_moves q d = moves_alone passing_rest.1.1 passing_rest_room (passing_found q) passing_follows (λ h. d (passing_after ∙ h))

    pub passing_next : (x ≡ y → ⊥) → Passing g m y after (i + 1)
    passing_next d =
        record {
          within = omega arith;
          held = passing_after ∙ ap (low m (element g)) (sym (add-one i));
          passed = below_more _ _ p.passed (λ q. d (p.held ∙ q));
        }
