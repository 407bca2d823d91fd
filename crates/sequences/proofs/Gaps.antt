-- The signed count of steps between two numbers, in any sequence that goes round from its first element on with any period P.
-- Let i and j be their indices. A count leads from one number to the other exactly when it leads from i to j modulo P, since
-- elements are equal exactly at indices that are congruent modulo P. Two such counts differ by a multiple of P, and the range
-- −P ≤ 2d < P has no room for two of them; that it has room for one is the choice between d and d − P.
use mathlib.Core.Path.{◌≡◌, refl, sym, ap, ◌∙◌}
use mathlib.Core.Bool.{true, false}
use mathlib.Core.Logic.{◌⊎◌, inl, inr, ⊎_elim, by_cases}
use Prim.Native.Nat.{ℕ, zero, suc, ◌+◌, ◌-◌, ◌*◌, ◌≤◌, ◌<◌}
use native.Mathlib.Nat.{add-zero, add-suc, le_of_lt}
use native.Mathlib.Decide.{dec_le, dec_lt}
use native.Mathlib.Omega.{arith}
use lib.Dec.{T, leb, ltb→lt, lt→ltb, leb→le, le→leb}
use lib.IntN.{ℤ, pos, negsuc, neg_ℤ, ◌*ℤ◌}
use borrow.Author.Tests.{eq-eqb, ne_eqb, lt-ltb, le-ltb}
use Rattle.words.proofs.Congruence.{
  Congruent,
  from_multiples,
  same_refl,
  same_sym,
  same_trans,
  same_regroup,
  same_add,
  same_add_cancel,
  same_below,
}
use Rattle.sequences.specs.Index.{Located, Absent, occurs}
use Rattle.sequences.specs.Orbit.{IsOrbit}
use Rattle.sequences.specs.Gap.{ahead_of, signed_of, steps_of, stepped, Leads, InRange, SignedSteps, Ahead}
use Rattle.sequences.proofs.Least.{least_unique}
use Rattle.sequences.proofs.IndexOf.{located_is, occurs_at, occurs_nowhere}
use Rattle.sequences.proofs.Orbits.{Follows, congruent_gap, congruent_equal, equal_congruent}

-- x goes on by single steps
pub record Steps (next x : ℕ → ℕ) : Type 0 where
  pub step : (i : ℕ) → x (suc i) ≡ next (x i)

module _ {next x : ℕ → ℕ} (s : Steps next x) where
  pub steps_follow : Follows x
  steps_follow = record { next = λ i j e. s.step i ∙ ap next e ∙ sym (s.step j) }

  -- d single steps from element i
  pub stepped_along : (i d : ℕ) → stepped next d (x i) ≡ x (i + d)
  unfolding stepped
  stepped_along i zero = ap x (sym (add-zero i))
  stepped_along i (suc d) = ap next (stepped_along i d) ∙ sym (s.step (i + d)) ∙ ap x (sym (add-suc i d))

-- the range, in numbers without a sign
ahead_range : {P d : ℕ} → InRange P (pos d) → 2 * d < P
ahead_range {P} {d} r = ltb→lt (2 * d) P r.not_beyond.lt

range_ahead : {P d : ℕ} → 2 * d < P → InRange P (pos d)
range_ahead {P = zero} h = absurd (omega arith)
range_ahead {P = suc P} {d = d} h =
    record { not_below = record { le = tt }; not_beyond = record { lt = lt→ltb (2 * d) (suc P) h } }

-- twice −(d + 1)
twice_back : (d : ℕ) → pos 2 *ℤ negsuc d ≡ negsuc (2 * d + 1)
twice_back d = ap (λ (k : ℕ). neg_ℤ (pos k)) (let e : 2 * suc d ≡ suc (2 * d + 1) = omega arith in e)

back_range : {P d : ℕ} → InRange P (negsuc d) → 2 * suc d ≤ P
back_range {P = zero} {d = d} r = absurd (rw (twice_back d) at r.not_below.le)
back_range {P = suc P} {d = d} r =
    let h : T (leb (2 * d + 1) P) = rw (twice_back d) at r.not_below.le in
    omega (arith, leb→le (2 * d + 1) P h)

range_back : {P d : ℕ} → 2 * suc d ≤ P → InRange P (negsuc d)
range_back {P = zero} h = absurd (omega arith)
range_back {P = suc P} {d = d} h =
    record {
      not_below = record { le = rw (twice_back d) (le→leb (2 * d + 1) P (omega arith)) };
      not_beyond = record { lt = rw (twice_back d) tt };
    }

-- a signed count leads from index i to index j modulo P
abbrev Turns : ℕ → ℕ → ℕ → ℤ → Type 0
Turns P i j (pos d) = Congruent P (i + d) j
Turns P i j (negsuc d) = Congruent P (j + suc d) i

-- there and back again is at least P steps, if any
there_and_back : {P i j : ℕ} (d e : ℕ) → Congruent P (i + d) j → Congruent P (j + e) i → 1 ≤ d + e → P ≤ d + e
there_and_back {P} {i} {j} d e h k l =
    congruent_gap {u = i} (same_regroup (same_trans (same_add h (same_refl P e)) k) (omega arith) refl) l

-- two ways from i to the same place differ by a multiple of P
same_way : {P j d e : ℕ} (i : ℕ) → Congruent P (i + d) j → Congruent P (i + e) j → d < P → e < P → d ≡ e
same_way {P} {j} {d} {e} i h k l m =
    same_below
    (same_add_cancel (same_regroup (same_trans h (same_sym k)) (omega arith) (omega arith)) (same_refl P i))
    l m

-- in the range at most one does
turns_only : (P i j : ℕ) (d e : ℤ) → InRange P d → InRange P e → Turns P i j d → Turns P i j e → d ≡ e
turns_only P i j (pos d) (pos e) r q h k =
    ap pos (same_way i h k (omega (arith, ahead_range r)) (omega (arith, ahead_range q)))
turns_only P i j (negsuc d) (negsuc e) r q h k =
    ap negsuc
    (let s : suc d ≡ suc e = same_way j h k (omega (arith, back_range r)) (omega (arith, back_range q)) in
    let t : d ≡ e = omega arith in t)
turns_only P i j (pos d) (negsuc e) r q h k =
    absurd (omega (arith, ahead_range r, back_range q, there_and_back d (suc e) h k (omega arith)))
turns_only P i j (negsuc d) (pos e) r q h k =
    absurd (omega (arith, back_range r, ahead_range q, there_and_back e (suc d) k h (omega arith)))

-- The signed count of d steps ahead, in the first half of the period and behind it.
pub signed_ahead : {P d : ℕ} → 2 * d < P → signed_of P d ≡ pos d
signed_ahead {P} {d} h = rw (lt-ltb (2 * d) P h)

pub signed_back : {P d : ℕ} → d < P → P ≤ 2 * d → signed_of P d ≡ negsuc (P - suc d)
signed_back {P = zero} h l = absurd (omega arith)
signed_back {P = suc P} {d = d} h l = rw (le-ltb (2 * d) (suc P) l, lt-ltb d (suc P) h)

-- It is in the range, and leads from i to j where d steps ahead do.
signed_range : (P d : ℕ) → d < P → InRange P (signed_of P d)
signed_range P d h =
    by_cases (dec_lt (2 * d) P) (λ l. rw (signed_ahead l) (range_ahead l))
    (λ l. let m : P ≤ 2 * d = omega arith in rw (signed_back h m) (range_back (omega arith)))

signed_turns : {P i j d : ℕ} → Ahead P i j d → Turns P i j (signed_of P d)
signed_turns {P} {i} {j} {d} a =
    by_cases (dec_lt (2 * d) P) (λ l. rw (signed_ahead l) a.leads)
    (λ l. let m : P ≤ 2 * d = omega arith in rw (signed_back a.below m) back)
  where
    rest : ℕ
    rest = suc (P - suc d)

    back : Congruent P (j + rest) i
    back =
        same_trans (same_add (same_sym a.leads) (same_refl P rest)) (from_multiples 0 1 (omega (arith, a.below)))

-- whether a number occurs
pub located_occurs : {x : ℕ → ℕ} {y P k : ℕ} → Located x y P k → occurs x P y ≡ true
located_occurs {x} {k = k} h = occurs_at x k h.below h.yields

pub absent_missing : {x : ℕ → ℕ} {y : ℕ} (P : ℕ) → Absent x y → occurs x P y ≡ false
absent_missing {x} {y} P h = occurs_nowhere x y P (λ i l. h.none i)

module _ {next x : ℕ → ℕ} {P : ℕ} (s : Steps next x) (o : IsOrbit x 0 P) where
  equal_turned : {i j : ℕ} → Congruent P i j → x i ≡ x j
  equal_turned = congruent_equal (steps_follow s) o (omega arith) (omega arith)

  turned_equal : (i j : ℕ) → x i ≡ x j → Congruent P i j
  turned_equal i j e =
      by_cases (dec_le i j) (λ l. equal_congruent (steps_follow s) o (omega arith) l e)
      (λ l. same_sym (equal_congruent (steps_follow s) o (omega arith) (omega arith) (sym e)))

  -- a count leads from one element to another exactly when it leads from index to index
  turns_leads : (i j : ℕ) (d : ℤ) → Turns P i j d → Leads next (x i) (x j) d
  turns_leads i j (pos d) h = stepped_along s i d ∙ equal_turned h
  turns_leads i j (negsuc d) h = stepped_along s j (suc d) ∙ equal_turned h

  leads_turns : (i j : ℕ) (d : ℤ) → Leads next (x i) (x j) d → Turns P i j d
  leads_turns i j (pos d) h = turned_equal (i + d) j (sym (stepped_along s i d) ∙ h)
  leads_turns i j (negsuc d) h = turned_equal (j + suc d) i (sym (stepped_along s j (suc d)) ∙ h)

  module _ {from to i j d : ℕ} (f : Located x from P i) (t : Located x to P j) (a : Ahead P i j d) where
    -- the definition finds d: fewer steps would lead from i to another place than j
    ahead_is : ahead_of x P from to ≡ d
    unfolding ahead_of
    ahead_is =
        rw (located_is f)
        (least_unique
        (record {
          within = le_of_lt a.below;
          holds = λ l. eq-eqb (x (i + d)) to (equal_turned a.leads ∙ t.yields);
          first =
              λ k l.
              ne_eqb (x (i + k)) to λ e.
              omega
              (arith, a.below, same_way i (turned_equal (i + k) j (e ∙ sym t.yields)) a.leads (omega (arith, a.below)) a.below);
        }))

    pub gap_is : steps_of x P from to ≡ signed_of P d
    unfolding steps_of
    gap_is = ap (signed_of P) ahead_is

    -- and it means what it should
    pub gap_found : SignedSteps next x P from to 1 (signed_of P d)
    gap_found =
        rw (← f.yields, ← t.yields)
        (record {
          period = o;
          answer = inl refl;
          leads = λ q. turns_leads i j (signed_of P d) (signed_turns a);
          in_range = λ q. signed_range P d a.below;
          only =
              λ q e r h.
              turns_only P i j e (signed_of P d) r (signed_range P d a.below) (leads_turns i j e h) (signed_turns a);
          never = (λ q. absurd (omega arith), ⊎_elim (λ n. absurd (n i refl)) (λ n. absurd (n j refl)));
        })

  pub gap_never : {from to : ℕ} → Absent x from ⊎ Absent x to → SignedSteps next x P from to 0 (pos 0)
  gap_never n =
      record {
        period = o;
        answer = inr refl;
        leads = λ q. absurd (omega arith);
        in_range = λ q. absurd (omega arith);
        only = λ q. absurd (omega arith);
        never = (λ q. ⊎_elim (λ h. inl h.none) (λ h. inr h.none) n, λ q. refl);
      }
