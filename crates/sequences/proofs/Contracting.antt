-- Contracting sequences: one step later two elements agree in one place more, up to n. So neighbours x (i + 1)
-- and x i agree in i places, and x rests at n at the latest. An element that comes again is where x rests already,
-- for its neighbour agrees with it in m + 1 places on the next visit if in m places on this one. So the preperiod
-- is where x first rests, and the period is 1.
-- Where each step adds exactly v places, as multiplication by 2 ^ v times an odd number does, the neighbours
-- that first differ at place w first differ at w + i * v after i steps, and x rests as soon as that reaches n.
use mathlib.Core.Path.{◌≡◌, ap, ◌∙◌}
use mathlib.Core.Bool.{Bool}
use mathlib.Core.Logic.{◌↔◌, by_cases}
use Prim.Native.Nat.{ℕ, zero, suc, ◌+◌, ◌-◌, ◌*◌, ◌/◌, ◌≤◌, ◌<◌, suc-le-suc}
use native.Mathlib.Nat.{zero-add, suc-add, le_refl, le_of_lt, lt_of_not-le, le-div_iff_mul-le, lt-div-mul-add}
use native.Mathlib.Decide.{dec_le}
use native.Mathlib.Numerals.{add-one}
use native.Mathlib.Omega.{arith}
use lib.Dec.{eqb}
use borrow.Author.Tests.{eq-eqb, eqb-true, eqb-false}
use Rattle.sequences.specs.Least.{least}
use Rattle.sequences.specs.Orbit.{IsOrbit}
use Rattle.sequences.proofs.Least.{Least, least_least, least_below}
use Rattle.sequences.proofs.Agreement.{
  Agree,
  FirstDiffer,
  Reduced,
  agree_of_eq,
  agree_lower,
  agree_zero,
  reduced_eq,
}

-- elements that agree in m < n places agree in one place more a step later
pub record Contracting (n : ℕ) (x : ℕ → ℕ) : Type 0 where
  pub step : (m i j : ℕ) → m < n → Agree m (x i) (x j) → Agree (suc m) (x (suc i)) (x (suc j))

-- x rests from t on, and moves at each step before
pub record Rests (x : ℕ → ℕ) (t : ℕ) : Type 0 where
  pub rest : x (suc t) ≡ x t
  pub moves : (i : ℕ) → i < t → x (suc i) ≡ x i → ⊥

module _ {n : ℕ} {x : ℕ → ℕ} (con : Contracting n x) where
  -- agreement is kept on the way
  keeps_once : (m i j : ℕ) → m ≤ n → Agree m (x i) (x j) → Agree m (x (suc i)) (x (suc j))
  keeps_once zero i j l h = agree_zero (x (suc i)) (x (suc j))
  keeps_once (suc m) i j l h = con.step m i j l (agree_lower m (omega arith) h)

  keeps : (m k i j : ℕ) → m ≤ n → Agree m (x i) (x j) → Agree m (x (k + i)) (x (k + j))
  keeps m zero i j l h = rw (zero-add i, zero-add j) h
  keeps m (suc k) i j l h = rw (suc-add k i, suc-add k j) (keeps_once m (k + i) (k + j) l (keeps m k i j l h))

  -- neighbours agree in one place more at each step
  pub neighbours : (i : ℕ) → i ≤ n → Agree i (x (suc i)) (x i)
  neighbours zero l = agree_zero (x 1) (x 0)
  neighbours (suc i) l = con.step i (suc i) i l (neighbours i (le_of_lt l))

module _ {n : ℕ} {x : ℕ → ℕ} (con : Contracting n x) (red : Reduced n x) where
  -- equal elements are followed by equal elements
  pub next_equal : (i j : ℕ) → x i ≡ x j → x (suc i) ≡ x (suc j)
  next_equal i j e = reduced_eq red (suc i) (suc j) (keeps_once con n i j (le_refl n) (agree_of_eq n e))

  -- it rests at n at the latest
  pub last_rest : x (suc n) ≡ x n
  last_rest = reduced_eq red (suc n) n (neighbours con n (le_refl n))

  -- an element that comes again is where x rests
  pub rest_of_repeat : (i j : ℕ) → i < j → x j ≡ x i → x (suc i) ≡ x i
  rest_of_repeat i j l e = reduced_eq red (suc i) i (closer n (le_refl n))
    where
      k : ℕ
      k = j - suc i

      closer : (m : ℕ) → m ≤ n → Agree m (x (suc i)) (x i)
      closer zero b = agree_zero (x (suc i)) (x i)
      closer (suc m) b =
          let p : k + suc (suc i) ≡ suc j = omega arith in
          let q : k + suc i ≡ j = omega arith in
          rw (p, q, next_equal j i e, e) at
          (keeps con (suc m) k (suc (suc i)) (suc i) b (con.step m (suc i) i b (closer m (le_of_lt b))))

  -- so before x rests no element comes again
  pub no_repeat : {t : ℕ} → Rests x t → (i j : ℕ) → i < t → i < j → x j ≡ x i → ⊥
  no_repeat r i j l b e = r.moves i l (rest_of_repeat i j b e)

  -- so its orbit is what it passes before it rests, and the element that stays
  pub rest_orbit : {t : ℕ} → Rests x t → (t ≤ n) × IsOrbit x t 1
  rest_orbit {t} r = (
    elim (dec_le t n) [ yes l ↦ l | no f ↦ absurd (r.moves n (lt_of_not-le f) last_rest) ],
    record {
      positive = le_refl 1;
      returns = ap x (add-one t) ∙ r.rest;
      shortest = λ d l e. l;
      first = no_repeat r;
    },
  )

  -- and it has one
  pub resting : (t : ℕ) × Rests x t
  resting = (
    t,
    record {
      rest = eqb-true _ _ (l.holds (suc-le-suc (least_below l n (eq-eqb (x (suc n)) (x n) last_rest))));
      moves = λ i h. eqb-false (x (suc i)) (x i) (l.first i h);
    },
  )
    where
      still : ℕ → Bool
      still i = eqb (x (suc i)) (x i)

      t : ℕ
      t = least still (suc n)

      l : Least still (suc n) t
      l = least_least still (suc n)

-- each step adds exactly v places, up to n
pub record Scaling (n v : ℕ) (x : ℕ → ℕ) : Type 0 where
  pub positive : 1 ≤ v
  pub exact : (m i j : ℕ) → m + v ≤ n → Agree m (x i) (x j) ↔ Agree (m + v) (x (suc i)) (x (suc j))
  pub full : (m i j : ℕ) → n ≤ m + v → Agree m (x i) (x j) → Agree n (x (suc i)) (x (suc j))

pub scaling_contracting : {n v : ℕ} {x : ℕ → ℕ} → Scaling n v x → Contracting n x
scaling_contracting {n} {v} {x} sc =
    record {
      step =
          λ m i j l h.
          by_cases (dec_le (m + v) n) (λ b. agree_lower (suc m) (omega arith) ((sc.exact m i j b).0 h))
          (λ d. agree_lower (suc m) l (sc.full m i j (omega arith) h));
    }

module _ {n v w : ℕ} {x : ℕ → ℕ} (sc : Scaling n v x) (l : w < n) (first : FirstDiffer w (x 1) (x 0)) where
  -- the neighbours first differ v places higher after each step
  scaled_differ : (i : ℕ) → w + i * v < n → FirstDiffer (w + i * v) (x (suc i)) (x i)
  scaled_differ zero b = let e : w + zero * v ≡ w = omega arith in rw e first
  scaled_differ (suc i) b =
      let e : w + suc i * v ≡ w + i * v + v = omega arith in
      let before : FirstDiffer (w + i * v) (x (suc i)) (x i) = scaled_differ i (omega arith) in
      rw e
      (record {
        agree = (sc.exact (w + i * v) (suc i) i (omega arith)).0 before.agree;
        differ =
            λ a. before.differ ((sc.exact (suc (w + i * v)) (suc i) i (omega arith)).1 (rw suc-add a));
      })

  -- and agree in all n places once that reaches n
  scaled_agree : (i : ℕ) → n ≤ w + i * v → Agree n (x (suc i)) (x i)
  scaled_agree zero b = absurd (omega arith)
  scaled_agree (suc i) b =
      by_cases (dec_le n (w + i * v))
      (λ c. keeps_once (scaling_contracting sc) n (suc i) i (le_refl n) (scaled_agree i c))
      (λ d. sc.full (w + i * v) (suc i) i (omega arith) (scaled_differ i (omega arith)).agree)

  -- so x rests exactly where w + i * v has reached n
  pub scaled_rest : Reduced n x → (i : ℕ) → (x (suc i) ≡ x i) ↔ (n ≤ w + i * v)
  scaled_rest red i = (λ e. omega (arith, early e), λ b. reduced_eq red (suc i) i (scaled_agree i b))
    where
      early : x (suc i) ≡ x i → w + i * v < n → ⊥
      early e b = (scaled_differ i b).differ (agree_of_eq (suc (w + i * v)) e)

  -- which is first so at (n - w) / v rounded up
  pub scaled_rests : Reduced n x → Rests x ((n - w + v - 1) / v)
  scaled_rests red =
      record {
        rest = (scaled_rest red (c / v)).1 (omega (arith, lt-div-mul-add {a = c} sc.positive));
        moves = λ i b e. omega (arith, (le-div_iff_mul-le sc.positive).0 b, (scaled_rest red i).0 e);
      }
    where
      c : ℕ
      c = n - w + v - 1
