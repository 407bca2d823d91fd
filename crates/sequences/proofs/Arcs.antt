-- What parts of two sequences of one step have in common, for any period P. Where the second sequence starts at an element of the
-- first, both go round one circle of P places, and the parts are arcs: the first has each of its numbers at a place below P,
-- once, and the second has it there exactly if the place lies in the arc from d on, of at most P places, or in what of that arc
-- passes the end. So the test holds at the places below d + m - P, from d to d + m, and at no other, m cut at P. Where the
-- second starts at no element of the first, nothing is common: from a number that both had the first would come to that start.
use mathlib.Core.Path.{◌≡◌, refl, sym, ap, ◌∙◌}
use mathlib.Core.Bool.{Bool, true, false, ◌&&◌}
use mathlib.Core.Logic.{by_cases}
use Prim.Native.Nat.{ℕ, zero, suc, ◌+◌, ◌-◌, ◌/◌, ◌%◌, ◌≤◌, ◌<◌, min}
use native.Mathlib.Nat.{zero-add, add-suc, div-add-mod', mod-lt}
use native.Mathlib.Decide.{dec_le, dec_lt}
use native.Mathlib.Omega.{arith}
use Rattle.words.proofs.Congruence.{Congruent, from_multiples, same_mod, same_sym, same_trans, same_refl, same_add, same_below, same_regroup}
use Rattle.sequences.specs.Index.{Absent, occurs}
use Rattle.sequences.specs.Orbit.{IsOrbit}
use Rattle.sequences.specs.Distinct.{count_of, is_new}
use Rattle.sequences.specs.Gap.{stepped}
use Rattle.sequences.specs.Common.{common_of, arcs_share}
use Rattle.sequences.proofs.IndexOf.{occurs_at, occurs_nowhere}
use Rattle.sequences.proofs.Orbits.{Follows, congruent_equal, equal_congruent, orbit_from}
use Rattle.sequences.proofs.Gaps.{Steps, steps_follow, stepped_along}
use Rattle.sequences.proofs.Common.{first_new, again_old}

-- a test that holds below `low`, from `from` to `to`, and at no other number
count_parts : {p : ℕ → Bool} {low from to : ℕ} → low ≤ from → ((i : ℕ) → i < low → p i ≡ true) →
    ((i : ℕ) → low ≤ i → i < from → p i ≡ false) → ((i : ℕ) → from ≤ i → i < to → p i ≡ true) →
    ((i : ℕ) → from ≤ i → to ≤ i → p i ≡ false) → (n : ℕ) → count_of p n ≡ min n low + (min n to - from)
unfolding count_of
count_parts l early between late beyond zero = omega arith
count_parts {p} {low} {from} {to} l early between late beyond (suc n) =
    let e = count_parts l early between late beyond n in
    by_cases (dec_lt n low) (λ b. rw (e, early n b) (omega arith))
    (λ b.
    by_cases (dec_lt n from) (λ c. rw (e, between n (omega arith) c) (omega arith))
    (λ c.
    by_cases (dec_lt n to) (λ h. rw (e, late n (omega arith) h) (omega arith))
    (λ h. rw (e, beyond n (omega arith) (omega arith)) (omega arith))))

-- Two arcs on one circle: z goes round with x, d places ahead.
module _ {x z : ℕ → ℕ} {P d : ℕ} (f : Follows x) (o : IsOrbit x 0 P) (near : d < P) (ahead : (k : ℕ) → z k ≡ x (d + k)) (m : ℕ) where
  -- below P all is new, and from there on nothing
  new_within : (i : ℕ) → i < P → is_new x i ≡ true
  new_within i b =
      first_new x i λ j l e.
      omega (arith, same_below (equal_congruent f o {i = j} {j = i} (omega arith) (omega arith) e) (omega arith) b)

  old_beyond : (i : ℕ) → P ≤ i → is_new x i ≡ false
  old_beyond i b =
      again_old x i (i - P) (omega (arith, o.positive))
      (congruent_equal f o (omega arith) (omega arith) (from_multiples 1 0 (omega arith)))

  -- the second arc has places from d on, and what of it passes the end
  straight : (i : ℕ) → d ≤ i → i < d + min m P → occurs z m (x i) ≡ true
  straight i l b = occurs_at z (i - d) (omega arith) (ahead (i - d) ∙ ap x (omega arith))

  past_end : (i : ℕ) → i < d + min m P - P → occurs z m (x i) ≡ true
  past_end i b =
      occurs_at z (i + P - d) (omega arith)
      (ahead (i + P - d) ∙ congruent_equal f o (omega arith) (omega arith) (from_multiples 0 1 (omega arith)))

  -- and no other place below P: k places on from d is k modulo P places on, and past the end at most once
  elsewhere : (i : ℕ) → i < P → d + min m P - P ≤ i → ((d ≤ i) × (i < d + min m P) → ⊥) → occurs z m (x i) ≡ false
  elsewhere i b low out = occurs_nowhere z (x i) m (λ k l e. hits k l (congruent k e))
    where
      congruent : (k : ℕ) → z k ≡ x i → Congruent P (d + k % P) i
      congruent k e =
          let h : Congruent P (d + k) i = turned (d + k) (sym (ahead k) ∙ e) in
          same_trans (same_add (same_refl P d) (same_mod P k)) h
        where
          turned : (j : ℕ) → x j ≡ x i → Congruent P j i
          turned j e =
              by_cases (dec_le j i) (λ l. equal_congruent f o (omega arith) l e)
              (λ l. same_sym (equal_congruent f o (omega arith) (omega arith) (sym e)))

      hits : (k : ℕ) → k < m → Congruent P (d + k % P) i → ⊥
      hits k l c =
          let r : k % P < P = mod-lt k o.positive in
          let q : k % P ≤ k = omega (arith, div-add-mod' k P) in
          by_cases (dec_lt (d + k % P) P)
          (λ h. let e : d + k % P ≡ i = same_below c h b in out (omega arith, omega arith))
          (λ h.
          let c' : Congruent P (d + k % P - P) i = same_trans (from_multiples 1 0 (omega arith)) c in
          let e : d + k % P - P ≡ i = same_below c' (omega arith) b in
          omega arith)

  arcs_share_lem : (n : ℕ) → common_of x n z m ≡ arcs_share P n d m
  unfolding common_of
  arcs_share_lem n =
      count_parts {low = d + min m P - P} {from = d} {to = min (d + min m P) P} (omega arith)
      (λ i l. rw (new_within i (omega arith), past_end i l) refl)
      (λ i l b. rw (new_within i (omega arith), elsewhere i (omega arith) l (λ h. omega (arith, h.0))) refl)
      (λ i l b. rw (new_within i (omega arith), straight i l (omega arith)) refl)
      (λ i l b.
      by_cases (dec_lt i P)
      (λ c. rw (new_within i c, elsewhere i c (omega arith) (λ h. omega (arith, h.1))) refl)
      (λ c. rw (old_beyond i (omega arith)) refl))
      n
      ∙ ap (λ (k : ℕ). min n (d + min m P - P) + (k - d)) (smallest n (d + min m P))
    where
      smallest : (n to : ℕ) → min n (min to P) ≡ min (min n P) to
      smallest n to = omega arith

-- nothing in common
common_none : {x z : ℕ → ℕ} → ((i k : ℕ) → x i ≡ z k → ⊥) → (n m : ℕ) → common_of x n z m ≡ 0
unfolding common_of count_of
common_none {x} {z} none zero m = refl
common_none {x} {z} none (suc n) m =
    rw (common_none none n m, occurs_nowhere z (x n) m (λ k l e. none n k (sym e)), and_false (is_new x n)) refl
  where
    and_false : (b : Bool) → (b && false) ≡ false
    and_false true = refl
    and_false false = refl

-- Parts of two sequences of one step: of x from index s on, of z from index t on.
module _ {next x z : ℕ → ℕ} {P : ℕ} (step-x : Steps next x) (step-z : Steps next z) (o : IsOrbit x 0 P) where
  -- z starts at element j of x, and d places lead from the one part's start to the other's
  pub parts_share : {j d : ℕ} (s t : ℕ) → x j ≡ z 0 → d < P → Congruent P (s + d) (t + j) → (n m : ℕ) →
      common_of (λ i. x (s + i)) n (λ i. z (t + i)) m ≡ arcs_share P n d m
  parts_share {j} {d} s t e near c n m = arcs_share_lem (steps_follow steps) orbit near ahead m n
    where
      f : Follows x
      f = steps_follow step-x

      steps : Steps next (λ i. x (s + i))
      steps = record { step = λ i. ap x (add-suc s i) ∙ step-x.step (s + i) }

      orbit : IsOrbit (λ i. x (s + i)) 0 P
      orbit = let e : 0 - s ≡ 0 = omega arith in rw e at (orbit_from f o s)

      ahead : (k : ℕ) → z (t + k) ≡ x (s + (d + k))
      ahead k =
          ap z (sym (zero-add (t + k))) ∙ sym (stepped_along step-z 0 (t + k)) ∙ ap (stepped next (t + k)) (sym e) ∙ stepped_along step-x j (t + k)
          ∙ congruent_equal f o (omega arith) (omega arith)
          (same_regroup (same_add (same_sym c) (same_refl P k)) (omega arith) (omega arith))

  -- z starts at no element of x
  pub parts_apart : {Q : ℕ} → IsOrbit z 0 Q → Absent x (z 0) → (s t n m : ℕ) →
      common_of (λ i. x (s + i)) n (λ i. z (t + i)) m ≡ 0
  parts_apart {Q} oz none s t = common_none (λ i k e. none.none _ (returns (s + i) (t + k) e))
    where
      -- as many steps as lead z from its element k to its start
      rest : ℕ → ℕ
      rest k = Q - k % Q

      returns : (i k : ℕ) → x i ≡ z k → x (i + rest k) ≡ z 0
      returns i k e =
          sym (stepped_along step-x i (rest k)) ∙ ap (stepped next (rest k)) e ∙ stepped_along step-z k (rest k)
          ∙ congruent_equal (steps_follow step-z) oz (omega arith) (omega arith)
          (from_multiples 0 (k / Q + 1) (omega (arith, div-add-mod' k Q, mod-lt k oz.positive)))
