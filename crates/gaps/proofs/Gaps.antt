-- The gap of two numbers of a generator. An odd multiplier has no preperiod, so what occurs recurs, and the search that finds a
-- number's index has found the period on its way; the rest is said of any sequence and any period in `sequences`.
use Rattle.sequences.specs.declared.Indices.{Indices}
use Rattle.sequences.specs.declared.Indices.TheVariants as indices
use Rattle.sequences.specs.Occurrences.{IndicesAre}
use mathlib.Core.Path.{◌≡◌, refl, sym, subst, ◌∙◌}
use mathlib.Core.Bool.{Bool, true, false, ◌&&◌}
use mathlib.Core.Logic.{◌⊎◌, ⊎_elim}
use Prim.Native.Nat.{ℕ, suc, ◌%◌, ◌≤◌}
use native.Mathlib.Omega.{arith}
use lib.IntN.{ℤ}
use mir.Syntax.{w64}
use mir.Val.{SFits, to_z, of_z}
use mir.ValLaws.{to_z-of_z}
use Rattle.sequences.specs.Index.{Located, Absent, occurs}
use Rattle.sequences.specs.Orbit.{IsOrbit}
use Rattle.sequences.specs.Gap.{signed_of, Ahead}
use Rattle.sequences.proofs.Orbits.{period_is, orbit_only, orbit_room}
use Rattle.sequences.proofs.Gaps.{Steps, located_occurs, absent_missing, gap_is, gap_found, gap_never}
use Rattle.generator.specs.declared.Generator.{Generator}
use Rattle.refusals.specs.declared.Refusal.{Refusal}
use Rattle.generator.specs.Recurrence.{modulus, step, element}
use Rattle.refusals.specs.Refusals.{number_of}
use Rattle.generator.specs.Check.{refusal_of}
use Rattle.refusals.proofs.Conditions.{or_else_none}
use Rattle.generator.proofs.Refusals.{modulus_word, parity_odd}
use Rattle.generator.proofs.Elements.{element_next, element_follows}
use Rattle.refusals.proofs.Replies.{number_suc, number_nonzero}
use Rattle.std.specs.Prelude.{Some, None, Ok, Err}
use Rattle.gaps.proofs.SignedCounts.{signed_fits}
use Rattle.gaps.specs.Gap.{gap_refusal, period, plain_gap, GapPromise}
use Rattle.orbits.proofs.Orbits.{odd_has_orbit, has_orbit}
use Rattle.sequences.proofs.Occurrences.{recurring_located, alone_nowhere}

-- a generator that the call accepts
pub gap_accepted : (g : Generator) → gap_refusal g ≡ 0 → (refusal_of g ≡ 0) × (g.multiplier % 2 ≡ 1)
unfolding gap_refusal
gap_accepted g e = let both = or_else_none _ _ e in (both.0, parity_odd g both.1)

generator_steps : (g : Generator) → Steps (step g) (element g)
generator_steps g = record { step = element_next g }

-- The period that the definition finds is that of the orbit.
module _ (g : Generator) (z : gap_refusal g ≡ 0) where
  accepted_orbit : (P : ℕ) × IsOrbit (element g) 0 P
  accepted_orbit = let a = gap_accepted g z in odd_has_orbit g a.0 a.1

  orbit_period : {P : ℕ} → IsOrbit (element g) 0 P → P ≤ modulus g → period g ≡ P
  unfolding period
  orbit_period o room = period_is o (omega (arith, room))

  -- where a number stands, if it occurs, and that it does not otherwise
  pub every_located : (y k last : ℕ) → IndicesAre (element g) y (modulus g) (indices.Every k last) →
      (IsOrbit (element g) 0 (suc last)) × (Located (element g) y (suc last) k) × (suc last ≤ modulus g)
  every_located y k last r =
      let o = accepted_orbit in
      let f = recurring_located o.1 (element_follows g) r in
      (subst (IsOrbit (element g) 0) (sym f.0) o.1, f.1, omega (arith, r.room))

  pub other_absent : (y : ℕ) (r : Indices) → ((k last : ℕ) → r ≡ indices.Every k last → ⊥) →
      IndicesAre (element g) y (modulus g) r → Absent (element g) y
  other_absent y (indices.Once k) t h = absurd (alone_nowhere accepted_orbit.1 h)
  other_absent y (indices.Every k last) t h = absurd (t k last refl)
  other_absent y indices.Never t h = h

  pub period_last : (y k last : ℕ) → IndicesAre (element g) y (modulus g) (indices.Every k last) → period g ≡ suc last
  period_last y k last r = let e = every_located y k last r in orbit_period e.0 e.2

-- The promise of the call.
pub gap_refused : (g : Generator) (from to : ℕ) (r : Refusal) → number_of r ≡ gap_refusal g →
    GapPromise g from to (plain_gap (Err r))
gap_refused g from to r e =
    record {
      equals = let k = number_suc r in rw (← e, k.1);
      meaning = λ z. absurd (number_nonzero r z);
    }

and_false : (b : Bool) → (b && false) ≡ false
and_false true = refl
and_false false = refl

pub gap_missing : (g : Generator) (from to : ℕ) → gap_refusal g ≡ 0 → Absent (element g) from ⊎ Absent (element g) to →
    GapPromise g from to (plain_gap (Ok None))
gap_missing g from to z n =
    record { equals = rw (z, none n); meaning = λ q. gap_never (generator_steps g) orbit n }
  where
    P : ℕ
    P = period g

    none : Absent (element g) from ⊎ Absent (element g) to →
        (occurs (element g) P from && occurs (element g) P to) ≡ false
    none = ⊎_elim (λ h. rw (absent_missing P h)) (λ h. rw (absent_missing P h) (and_false (occurs (element g) P from)))

    orbit : IsOrbit (element g) 0 P
    orbit =
        let a = gap_accepted g z in
        let o = (has_orbit g a.0).1 in
        let q = orbit_only o.orbit (accepted_orbit g z).1 in
        let e = orbit_period g z (accepted_orbit g z).1 (omega (arith, orbit_room o, q.0, q.1)) in
        rw e (accepted_orbit g z).1

-- the count as the machine hands it back, by its bits
pub gap_counted : (g : Generator) (from to i j last other : ℕ) {d : ℕ} {steps : ℤ} → gap_refusal g ≡ 0 →
    IndicesAre (element g) from (modulus g) (indices.Every i other) →
    IndicesAre (element g) to (modulus g) (indices.Every j last) → Ahead (suc last) i j d →
    steps ≡ signed_of (suc last) d → GapPromise g from to (plain_gap (Ok (Some (to_z w64 (of_z w64 steps)))))
gap_counted g from to i j last other {d} {steps} z f t a e =
    rw (e, to_z-of_z w64 (signed_of (suc last) d) fits)
    (record {
      equals =
          rw (z, whole, located_occurs first, located_occurs second.1, gap_is (generator_steps g) o first second.1 a);
      meaning = λ q. rw whole (gap_found (generator_steps g) o first second.1 a);
    })
  where
    second : (IsOrbit (element g) 0 (suc last)) × (Located (element g) to (suc last) j) × (suc last ≤ modulus g)
    second = every_located g z to j last t

    o : IsOrbit (element g) 0 (suc last)
    o = second.0

    whole : period g ≡ suc last
    whole = period_last g z to j last t

    first : Located (element g) from (suc last) i
    first =
        subst (λ (P : ℕ). Located (element g) from P i)
        (let e : suc other ≡ suc last = sym (period_last g z from i other f) ∙ whole in e) (every_located g z from i other f).1

    fits : SFits w64 (signed_of (suc last) d)
    fits =
        signed_fits {d = d} {last = last} (omega (arith, a.below))
        (omega (arith, second.2, modulus_word g (gap_accepted g z).0))
