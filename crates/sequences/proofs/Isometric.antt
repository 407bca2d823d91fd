-- Isometric sequences: two elements agree in m places exactly when the next two do, for m up to n. So what x
-- does from 0 on it does from every index on. In m places x has a period that is a power of two, 2 ^ e: one place
-- further either x 0 comes again after 2 ^ e steps there too, or it differs after 2 ^ e steps, and after as many
-- again the two differences cancel, so that the period doubles.
use mathlib.Core.Path.{◌≡◌, refl, ap}
use mathlib.Core.Bool.{Bool, true, false, cond}
use mathlib.Core.Logic.Iff
use mathlib.Core.Logic.{◌↔◌, ⊎_elim, by_cases}
use Prim.Native.Nat.{ℕ, zero, suc, ◌+◌, ◌*◌, ◌/◌, ◌%◌, ◌^◌, ◌≤◌, ◌<◌}
use native.Mathlib.Nat.{add-zero, suc-add, zero-add, le_refl, le_of_lt}
use native.Mathlib.Omega.{arith}
use lib.Dec.{eqb}
use lib.Pow.{pow_pos}
use borrow.Author.Tests.{eq-eqb, ne_eqb}
use Rattle.words.proofs.Congruence.{Congruent, to_multiples}
use Rattle.sequences.proofs.Agreement.{
  Agree,
  Reduced,
  FirstDiffer,
  agree_of_eq,
  agree_sym,
  agree_trans,
  agree_lower,
  agree_zero,
  agree_dec,
  agree_next,
  agree_lift,
  two_lifts,
  reduced_eq,
}
use Rattle.sequences.specs.Orbit.{IsOrbit}
use Rattle.sequences.proofs.Orbits.{return_orbit}
pub use Rattle.sequences.specs.Places.{Isometric}

-- any number of steps
pub shift : {n : ℕ} {x : ℕ → ℕ} → Isometric n x → (m k i j : ℕ) → m ≤ n →
    Agree m (x i) (x j) ↔ Agree m (x (k + i)) (x (k + j))
shift iso m zero i j l = rw (zero-add i, zero-add j) Iff.rfl
shift iso m (suc k) i j l = Iff.trans (shift iso m k i j l) (rw (suc-add k i, suc-add k j) (iso.step m (k + i) (k + j) l))

-- the exponent of the period in m places: it stays at a place where x returns after 2 ^ e steps, else it grows by 1
unfoldable pub exponent : (ℕ → ℕ) → ℕ → ℕ
exponent x zero = 0
exponent x (suc m) =
    let e = exponent x m in cond (eqb (x (2 ^ e) % 2 ^ suc m) (x 0 % 2 ^ suc m)) e (suc e)

-- the test at 0 decides the next exponent
stays : (x : ℕ → ℕ) {m e : ℕ} → exponent x m ≡ e → Agree (suc m) (x (2 ^ e)) (x 0) → exponent x (suc m) ≡ e
unfolding exponent
stays x p h = rw (p, eq-eqb _ _ h.places.same)

doubles : (x : ℕ → ℕ) {m e : ℕ} → exponent x m ≡ e → (Agree (suc m) (x (2 ^ e)) (x 0) → ⊥) →
    exponent x (suc m) ≡ suc e
unfolding exponent
doubles x p h = rw (p, ne_eqb _ _ (λ q. h (record { places = record { same = q } })))

-- it grows by 1 at most, and never falls
exponent_step : (x : ℕ → ℕ) (m : ℕ) → (exponent x m ≤ exponent x (suc m)) × (exponent x (suc m) ≤ suc (exponent x m))
unfolding exponent
exponent_step x m = either (eqb (x (2 ^ exponent x m) % 2 ^ suc m) (x 0 % 2 ^ suc m)) (exponent x m)
  where
    either : (b : Bool) (e : ℕ) → (e ≤ cond b e (suc e)) × (cond b e (suc e) ≤ suc e)
    either true e = omega arith
    either false e = omega arith

-- so it is at most m
pub exponent_le : (x : ℕ → ℕ) (m : ℕ) → exponent x m ≤ m
exponent_le x zero = unfold exponent in le_refl 0
exponent_le x (suc m) = omega (arith, exponent_step x m, exponent_le x m)

module _ {n : ℕ} {x : ℕ → ℕ} (iso : Isometric n x) where
  -- what happens q steps after 0 happens q steps after any k
  from_start : {m : ℕ} (k q : ℕ) → m ≤ n → Agree m (x q) (x 0) ↔ Agree m (x (k + q)) (x k)
  from_start {m} k q l = rw add-zero at (shift iso m k q 0 l)

  -- the test may be made at any k
  pub exponent_stays : {m e : ℕ} (k : ℕ) → m < n → exponent x m ≡ e →
      Agree (suc m) (x (k + 2 ^ e)) (x k) → exponent x (suc m) ≡ e
  exponent_stays {e = e} k l p h = stays x p ((from_start k (2 ^ e) l).1 h)

  pub exponent_doubles : {m e : ℕ} (k : ℕ) → m < n → exponent x m ≡ e →
      (Agree (suc m) (x (k + 2 ^ e)) (x k) → ⊥) → exponent x (suc m) ≡ suc e
  exponent_doubles {e = e} k l p d = doubles x p (λ h. d ((from_start k (2 ^ e) l).0 h))

  -- if x returns after q steps, in m places, it does so after each multiple of q, and so between congruent indices
  repeats : (m q : ℕ) → m ≤ n → Agree m (x q) (x 0) → (i t : ℕ) → Agree m (x (i + t * q)) (x i)
  repeats m q l h i zero = agree_of_eq m (ap x (omega arith))
  repeats m q l h i (suc t) =
      let e : i + suc t * q ≡ i + t * q + q = omega arith in
      agree_trans (rw e ((from_start (i + t * q) q l).0 h)) (repeats m q l h i t)

  repeats_along : (m q : ℕ) → m ≤ n → Agree m (x q) (x 0) → {i j : ℕ} → Congruent q i j → Agree m (x i) (x j)
  repeats_along m q l h {i} {j} c =
      agree_trans (agree_sym (repeats m q l h i (j / q))) (rw (to_multiples c) (repeats m q l h j (i / q)))

-- in m places x has the period 2 ^ e and no shorter one: elements agree exactly at indices congruent modulo 2 ^ e
pub record Periodic (x : ℕ → ℕ) (m e : ℕ) : Type 0 where
  pub law : (i j : ℕ) → Agree m (x i) (x j) ↔ Agree e i j

module _ {n : ℕ} {x : ℕ → ℕ} (iso : Isometric n x) {m e : ℕ} (l : m < n) (per : Periodic x m e) where
  -- one place further x returns after 2 ^ e steps too
  next_stays : Agree (suc m) (x (2 ^ e)) (x 0) → Periodic x (suc m) e
  next_stays h = record { law = λ i j. (there i j, λ a. repeats_along iso (suc m) (2 ^ e) l h a.places) }
    where
      there : (i j : ℕ) → Agree (suc m) (x i) (x j) → Agree e i j
      there i j a = (per.law i j).0 (agree_lower m (omega arith) a)

  -- or it does not, and then it returns after twice as many, by two lifts
  next_doubles : (Agree (suc m) (x (2 ^ e)) (x 0) → ⊥) → Periodic x (suc m) (suc e)
  next_doubles d = record { law = λ i j. (there i j, back i j) }
    where
      apart : (k : ℕ) → FirstDiffer m (x (k + 2 ^ e)) (x k)
      apart k =
          record {
            agree = (per.law (k + 2 ^ e) k).1 (agree_next e k);
            differ = λ a. d ((from_start iso k (2 ^ e) l).1 a);
          }

      twice : Agree (suc m) (x (2 ^ suc e)) (x 0)
      twice = let q : 2 ^ suc e ≡ 2 ^ e + 2 ^ e = omega arith in
          rw q (two_lifts (apart (2 ^ e)) (rw zero-add at (apart 0)))

      back : (i j : ℕ) → Agree (suc e) i j → Agree (suc m) (x i) (x j)
      back i j a = repeats_along iso (suc m) (2 ^ suc e) l twice a.places

      there : (i j : ℕ) → Agree (suc m) (x i) (x j) → Agree (suc e) i j
      there i j a =
          ⊎_elim (λ b. b) (λ b. absurd ((apart j).differ (agree_trans (agree_sym (back i (j + 2 ^ e) b)) a)))
          (agree_lift ((per.law i j).0 (agree_lower m (omega arith) a)))

-- the period law
pub period_law : {n : ℕ} {x : ℕ → ℕ} → Isometric n x → (m : ℕ) {e : ℕ} → m ≤ n → exponent x m ≡ e → Periodic x m e
period_law {x = x} iso zero l p =
    rw (← p) (unfold exponent in record { law = λ i j. (λ a. agree_zero i j, λ a. agree_zero (x i) (x j)) })
period_law {x = x} iso (suc m) l p =
    let before : Periodic x m (exponent x m) = period_law iso m (le_of_lt l) refl in
    by_cases (agree_dec (suc m) (x (2 ^ exponent x m)) (x 0))
    (λ h. rw (← p, stays x refl h) (next_stays iso l before h))
    (λ d. rw (← p, doubles x refl d) (next_doubles iso l before d))

-- all n places of the elements: the orbit has no preperiod, and its period is a power of two
pub isometric_orbit : {n : ℕ} {x : ℕ → ℕ} → Isometric n x → Reduced n x → IsOrbit x 0 (2 ^ exponent x n)
isometric_orbit {n} {x} iso red =
    return_orbit (pow_pos (exponent x n)) λ i. (
      λ e. ((law i).0 (agree_of_eq n e)).places,
      λ a. reduced_eq red i 0 ((law i).1 (record { places = a })),
    )
  where
    law : (i : ℕ) → Agree n (x i) (x 0) ↔ Agree (exponent x n) i 0
    law i = (period_law iso n (le_refl n) refl).law i 0
