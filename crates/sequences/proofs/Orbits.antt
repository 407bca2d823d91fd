-- Orbits with any preperiod t and any period P, over any sequence in which equal elements have equal successors. From t on
-- the sequence goes round: elements are equal exactly at indices that are congruent modulo P. So every value has an
-- index below t + P, and from any index s on the sequence has the same period and what is left of the preperiod.
-- And the definitions of preperiod and period find the orbit wherever it lies below their bound, and that of the first
-- return finds P at every index from t on.
use lib.Pow.{pow-lt}
use mathlib.Core.Path.{◌≡◌, refl, sym, ap, ◌∙◌}
use mathlib.Core.Logic.{◌↔◌, ◌⊎◌, inl, inr, ⊎_elim, by_cases}
use Prim.Native.Nat.{ℕ, zero, suc, ◌+◌, ◌-◌, ◌*◌, ◌/◌, ◌%◌, ◌≤◌, ◌<◌, ◌^◌}
use native.Mathlib.Nat.{add-zero, add-suc, le_refl, le_trans, div-add-mod', mod-lt}
use native.Mathlib.Decide.{ℕ_discrete, dec_le, dec_lt}
use native.Mathlib.Omega.{arith}
use borrow.Author.Tests.{eq-eqb, ne_eqb, lt-ltb, le-ltb}
use Rattle.words.proofs.Congruence.{Congruent, from_multiples, to_multiples, same_sym, same_below}
use Rattle.sequences.specs.Orbit.{return_less_one, preperiod_of, period_of, IsOrbit, exponent_of, OrbitIs}
use Rattle.sequences.proofs.Least.{least_unique}
use Rattle.sequences.specs.declared.Orbit.{Orbit}

-- equal elements have equal successors
pub record Follows (x : ℕ → ℕ) : Type 0 where
  pub next : (i j : ℕ) → x i ≡ x j → x (suc i) ≡ x (suc j)

-- and so on
pub follow : {x : ℕ → ℕ} → Follows x → (k i j : ℕ) → x i ≡ x j → x (i + k) ≡ x (j + k)
follow {x} f zero i j e = rw (add-zero i, add-zero j) e
follow {x} f (suc k) i j e = rw (add-suc i k, add-suc j k) (f.next (i + k) (j + k) (follow f k i j e))

-- numbers that are congruent modulo P and apart are at least P apart
pub congruent_gap : {P u d : ℕ} → Congruent P (u + d) u → 1 ≤ d → P ≤ d
congruent_gap {P} {u} {d} h l = by_cases (dec_le P d) (λ b. b) (λ b. absurd (near (omega arith)))
  where
    near : d < P → ⊥
    near b =
        let from_zero : Congruent P d 0 =
        from_multiples (u / P) ((u + d) / P) (omega (arith, to_multiples h)) in
        omega (arith, same_below from_zero b (omega arith))

-- y is an element with an index below the bound
pub record Among (x : ℕ → ℕ) (bound y : ℕ) : Type 0 where
  pub index : ℕ
  pub below : index < bound
  pub yields : x index ≡ y

module _ {x : ℕ → ℕ} {t P : ℕ} (f : Follows x) (o : IsOrbit x t P) where
  -- from t on the same comes again after P
  once_round : (i : ℕ) → t ≤ i → x (i + P) ≡ x i
  once_round i l =
      let p : t + P + (i - t) ≡ i + P = omega arith in
      let q : t + (i - t) ≡ i = omega arith in rw (p, q) at (follow f (i - t) (t + P) t o.returns)

  -- and after each multiple of P
  round : (i q : ℕ) → t ≤ i → x (i + q * P) ≡ x i
  round i zero l = ap x (omega arith)
  round i (suc q) l =
      let e : i + suc q * P ≡ i + q * P + P = omega arith in
      ap x e ∙ once_round (i + q * P) (omega arith) ∙ round i q l

  pub congruent_equal : {i j : ℕ} → t ≤ i → t ≤ j → Congruent P i j → x i ≡ x j
  congruent_equal {i} {j} l k c =
      sym (round i (j / P) l) ∙ ap x (to_multiples c) ∙ round j (i / P) k

  -- d steps lead from an element to itself only if they do so from element t, by going on to a multiple of P behind it
  back_to_start : (i d : ℕ) → t ≤ i → x (i + d) ≡ x i → x (t + d) ≡ x t
  back_to_start i d l e =
      let p : i + d + (t + i * P - i) ≡ t + d + i * P = omega (arith, far) in
      let q : i + (t + i * P - i) ≡ t + i * P = omega (arith, far) in
      sym (round (t + d) i (omega arith)) ∙ ap x (sym p) ∙ follow f (t + i * P - i) (i + d) i e ∙ ap x q
      ∙ round t i (le_refl t)
    where
      far : i ≤ i * P
      far = omega (arith, grows i P o.positive)
        where
          grows : (i P : ℕ) → 1 ≤ P → i ≤ i * P
          grows i zero h = absurd (omega arith)
          grows i (suc P) h = omega arith

  -- so d is a multiple of P: what is left of it modulo P leads from t to t as well
  equal_multiple : (i d : ℕ) → t ≤ i → x (i + d) ≡ x i → d % P ≡ 0
  equal_multiple i d l e = by_cases (ℕ_discrete (d % P) 0) (λ z. z) (λ z. absurd (short z))
    where
      whole : t + d ≡ t + d % P + d / P * P
      whole = omega (arith, div-add-mod' d P)

      short : (d % P ≡ 0 → ⊥) → ⊥
      short z =
          omega
          (arith, mod-lt d o.positive, o.shortest (d % P) (omega arith) (sym (round (t + d % P) (d / P) (omega arith)) ∙ ap x (sym whole) ∙ back_to_start i d l e))

  pub equal_congruent : {i j : ℕ} → t ≤ i → i ≤ j → x i ≡ x j → Congruent P i j
  equal_congruent {i} {j} l k e =
      let d : i + (j - i) ≡ j = omega arith in
      from_multiples ((j - i) / P) 0
      (omega (arith, equal_multiple i (j - i) l (ap x d ∙ sym e), div-add-mod' (j - i) P))

  -- when two elements are equal
  pub equal_exactly : {i j : ℕ} → i ≤ j → (x i ≡ x j) ↔ ((i ≡ j) ⊎ ((t ≤ i) × Congruent P i j))
  equal_exactly {i} {j} k = (there, back)
    where
      there : x i ≡ x j → (i ≡ j) ⊎ ((t ≤ i) × Congruent P i j)
      there e =
          by_cases (dec_le t i) (λ l. inr (l, equal_congruent l k e))
          (λ l.
          by_cases (ℕ_discrete i j) (λ q. inl q)
          (λ q. absurd (o.first i j (omega arith) (omega arith) (sym e))))

      back : (i ≡ j) ⊎ ((t ≤ i) × Congruent P i j) → x i ≡ x j
      back = ⊎_elim (λ q. ap x q) (λ h. congruent_equal h.0 (le_trans h.0 k) h.1)

  -- every value has an index below t + P
  pub orbit_value : (i : ℕ) → Among x (t + P) (x i)
  orbit_value i =
      by_cases (dec_lt i (t + P)) (λ l. record { index = i; below = l; yields = refl }) (λ l. later (omega arith))
    where
      later : t + P ≤ i → Among x (t + P) (x i)
      later l =
          let r = (i - t) % P in
          record {
            index = t + r;
            below = omega (arith, mod-lt (i - t) o.positive);
            yields =
                congruent_equal (omega arith) (omega arith)
                (from_multiples ((i - t) / P) 0 (omega (arith, div-add-mod' (i - t) P)));
          }

  -- so a number that none of these indices yields is never yielded
  pub orbit_never : {y : ℕ} → ((i : ℕ) → i < t + P → x i ≡ y → ⊥) → (i : ℕ) → x i ≡ y → ⊥
  orbit_never d i e = let v = orbit_value i in d v.index v.below (v.yields ∙ e)

  -- the sequence from index s on
  pub orbit_from : (s : ℕ) → IsOrbit (λ i. x (s + i)) (t - s) P
  orbit_from s =
      record {
        positive = o.positive;
        returns = ap x (let e : s + (t - s + P) ≡ s + (t - s) + P = omega arith in e) ∙ once_round (s + (t - s)) (omega arith);
        shortest =
            λ d l e.
            congruent_gap
            (same_sym
            (equal_congruent {i = s + (t - s)} {j = s + (t - s) + d} (omega arith) (omega arith)
            (sym e ∙ ap x (let q : s + (t - s + d) ≡ s + (t - s) + d = omega arith in q))))
            l;
        first = λ i j l b e. o.first (s + i) (s + j) (omega arith) (omega arith) e;
      }

-- a sequence that is back at its first element exactly after the multiples of P
pub return_orbit : {x : ℕ → ℕ} {P : ℕ} → 1 ≤ P → ((i : ℕ) → (x i ≡ x 0) ↔ Congruent P i 0) → IsOrbit x 0 P
return_orbit {x} {P} l law =
    record {
      positive = l;
      returns = (law (0 + P)).1 (from_multiples 0 1 (omega arith));
      shortest = λ d b e. congruent_gap {u = 0} ((law (0 + d)).0 e) b;
      first = λ i j b. absurd (omega arith);
    }

-- The definitions. An element that comes again after P indices, and not after fewer:
return_after : (x : ℕ → ℕ) {P bound : ℕ} (k : ℕ) → 1 ≤ P → P ≤ bound → x (k + P) ≡ x k →
    ((d : ℕ) → 1 ≤ d → x (k + d) ≡ x k → P ≤ d) → return_less_one x bound k ≡ P - 1
unfolding return_less_one
return_after x {P} k positive within returns shortest =
    least_unique
    (record {
      within = omega arith;
      holds = λ h. eq-eqb _ _ (ap x (let e : k + 1 + (P - 1) ≡ k + P = omega arith in e) ∙ returns);
      first =
          λ j h.
          ne_eqb (x (k + 1 + j)) (x k) λ e.
          omega
          (arith, shortest (suc j) (omega arith) (ap x (let q : k + suc j ≡ k + 1 + j = omega arith in q) ∙ e));
    })

module _ {x : ℕ → ℕ} {t P bound : ℕ} (o : IsOrbit x t P) (within : t + P ≤ bound) where
  return_is : return_less_one x bound t ≡ P - 1
  return_is = return_after x t o.positive (omega arith) o.returns o.shortest

  -- and from t on every element comes again after P indices
  pub return_from : Follows x → (k : ℕ) → t ≤ k → return_less_one x bound k ≡ P - 1
  return_from f k l =
      return_after x k o.positive (omega arith) (once_round f o k l)
      (λ d b e. congruent_gap (same_sym (equal_congruent f o {i = k} {j = k + d} l (omega arith) (sym e))) b)

  -- before the preperiod no element returns
  pub no_return : (i : ℕ) → i < t → return_less_one x bound i ≡ bound
  unfolding return_less_one
  no_return i l =
      least_unique
      (record {
        within = le_refl bound;
        holds = λ h. absurd (omega arith);
        first = λ j h. ne_eqb _ _ (λ e. o.first i (i + 1 + j) l (omega arith) e);
      })

  pub preperiod_is : preperiod_of x bound ≡ t
  unfolding preperiod_of
  preperiod_is =
      least_unique
      (record {
        within = omega arith;
        holds = λ h. lt-ltb (return_less_one x bound t) bound (rw return_is (omega (arith, o.positive)));
        first = λ i l. le-ltb (return_less_one x bound i) bound (rw (no_return i l) (le_refl bound));
      })

  pub period_is : period_of x bound ≡ P
  unfolding period_of
  period_is = rw (preperiod_is, return_is) (omega (arith, o.positive))

pub exponent_is : (e : ℕ) → e ≤ 64 → exponent_of (2 ^ e) ≡ e
unfolding exponent_of
exponent_is e l =
    least_unique
    (record {
      within = omega arith;
      holds = λ h. eq-eqb (2 ^ e) (2 ^ e) refl;
      first = λ j h. ne_eqb (2 ^ j) (2 ^ e) (λ q. omega (arith, pow-lt h));
    })

-- An orbit is the only one.
pub orbit_only : {x : ℕ → ℕ} {t P u Q : ℕ} → IsOrbit x t P → IsOrbit x u Q → (t ≡ u) × (P ≡ Q)
orbit_only {t = t} {P} {u} {Q} o q = (
  sym (preperiod_is {bound = t + P + (u + Q)} o (omega arith)) ∙ preperiod_is {bound = t + P + (u + Q)} q (omega arith),
  sym (period_is {bound = t + P + (u + Q)} o (omega arith)) ∙ period_is {bound = t + P + (u + Q)} q (omega arith),
)

-- The orbit in plain data, as the definitions find it; and a number that no index below the bound yields is never yielded.
module _ {x : ℕ → ℕ} {bound : ℕ} {o : Orbit} (is : OrbitIs x bound o) where
  pub orbit_room : o.preperiod + suc o.last ≤ bound
  orbit_room = omega (arith, is.within)

  pub orbit_is_never : Follows x → {y : ℕ} → ((i : ℕ) → i < bound → x i ≡ y → ⊥) → (i : ℕ) → x i ≡ y → ⊥
  orbit_is_never f d = orbit_never f is.orbit (λ i l. d i (omega (arith, orbit_room)))
