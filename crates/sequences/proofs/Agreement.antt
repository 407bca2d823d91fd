-- Agreement in the lowest m bit places: two numbers have the same remainder modulo 2 ^ m. It is an
-- equivalence, and agreement in more places gives agreement in fewer. One place further there are only two
-- ways to go on, since a bit is 0 or 1: two numbers that both first differ from a third at place m agree there.
use mathlib.Core.Path.{◌≡◌, sym, ap₂, ◌∙◌}
use mathlib.Core.Logic.{◌⊎◌, inl, inr, by_cases}
use Prim.Native.Nat.{ℕ, suc, ◌+◌, ◌*◌, ◌/◌, ◌%◌, ◌^◌, ◌≤◌, ◌<◌}
use native.Mathlib.Nat.{mod-one, mod-le, mod-eq_of_lt, add-div_right}
use native.Mathlib.Decide.{ℕ_discrete, map_dec}
use native.Mathlib.Numerals.{one-add}
use native.Mathlib.Omega.{arith}
use lib.Pow.{mod-pow-add, pow_pos}
use Rattle.words.proofs.Congruence.{from_multiples, same_sym, same_trans, same_of_eq, same_lower, same_below}
pub use Rattle.sequences.specs.Places.{Agree}

-- equal numbers agree in any number of places, and so does each with itself
pub agree_of_eq : (m : ℕ) {u v : ℕ} → u ≡ v → Agree m u v
agree_of_eq m e = record { places = same_of_eq (2 ^ m) e }

pub agree_sym : {m u v : ℕ} → Agree m u v → Agree m v u
agree_sym h = record { places = same_sym h.places }

pub agree_trans : {m u v w : ℕ} → Agree m u v → Agree m v w → Agree m u w
agree_trans h k = record { places = same_trans h.places k.places }

-- in fewer places
pub agree_lower : {n : ℕ} (m : ℕ) {u v : ℕ} → m ≤ n → Agree n u v → Agree m u v
agree_lower m l h = record { places = same_lower m l h.places }

-- any two numbers agree in no places
pub agree_zero : (u v : ℕ) → Agree 0 u v
agree_zero u v = record { places = record { same = mod-one u ∙ sym (mod-one v) } }

-- whether two numbers agree can be decided
pub agree_dec : (m u v : ℕ) → Dec (Agree m u v)
agree_dec m u v =
    map_dec (λ e. record { places = record { same = e } }) (λ h. h.places.same) (ℕ_discrete (u % 2 ^ m) (v % 2 ^ m))

-- numbers of n places that agree in all of them are equal
pub agree_below : {n u v : ℕ} → Agree n u v → u < 2 ^ n → v < 2 ^ n → u ≡ v
agree_below h a b = same_below h.places a b

-- one place further, if the next bit is the same too
agree_bit : {m u v : ℕ} → Agree m u v → u / 2 ^ m % 2 ≡ v / 2 ^ m % 2 → Agree (suc m) u v
agree_bit {m} {u} {v} h e =
    record {
      places =
          record { same = top u ∙ ap₂ (λ (b r : ℕ). b * 2 ^ m + r) e h.places.same ∙ sym (top v) };
    }
  where
    top : (w : ℕ) → w % 2 ^ suc m ≡ w / 2 ^ m % 2 * 2 ^ m + w % 2 ^ m
    top w = rw one-add at (mod-pow-add w 1 m)

-- a number and the one 2 ^ m above it agree in m places
pub agree_next : (m u : ℕ) → Agree m (u + 2 ^ m) u
agree_next m u = record { places = from_multiples 0 1 (omega arith) }

-- one place further, v or the number 2 ^ m above it agrees with u
pub agree_lift : {m u v : ℕ} → Agree m u v → Agree (suc m) u v ⊎ Agree (suc m) u (v + 2 ^ m)
agree_lift {m} {u} {v} h =
    by_cases (ℕ_discrete (u / 2 ^ m % 2) (v / 2 ^ m % 2)) (λ e. inl (agree_bit h e))
    (λ d. inr (agree_bit (agree_trans h (agree_sym (agree_next m v))) (omega (arith, add-div_right v (pow_pos m)))))

-- u and v agree below place m and differ there
pub record FirstDiffer (m u v : ℕ) : Type 0 where
  pub agree : Agree m u v
  pub differ : Agree (suc m) u v → ⊥

-- two lifts: u and w first differ from v at the same place, so they agree in it
pub two_lifts : {m u v w : ℕ} → FirstDiffer m u v → FirstDiffer m v w → Agree (suc m) u w
two_lifts {m} {u} {v} {w} h k = agree_bit (agree_trans h.agree k.agree) (omega (arith, p, q))
  where
    p : u / 2 ^ m % 2 ≡ v / 2 ^ m % 2 → ⊥
    p e = h.differ (agree_bit h.agree e)

    q : v / 2 ^ m % 2 ≡ w / 2 ^ m % 2 → ⊥
    q e = k.differ (agree_bit k.agree e)

-- the least number that agrees with i in m places is the one below 2 ^ m
pub agree_least : {m i k : ℕ} → Agree m i k → k < 2 ^ m → k ≤ i
agree_least {m} {i} {k} h l = omega (arith, mod-le i (2 ^ m), mod-eq_of_lt l, h.places.same)

-- every element of x is a number of n places
pub record Reduced (n : ℕ) (x : ℕ → ℕ) : Type 0 where
  pub below : (i : ℕ) → x i < 2 ^ n

-- such elements are equal if they agree in all n places
pub reduced_eq : {n : ℕ} {x : ℕ → ℕ} → Reduced n x → (i j : ℕ) → Agree n (x i) (x j) → x i ≡ x j
reduced_eq red i j h = agree_below h (red.below i) (red.below j)
