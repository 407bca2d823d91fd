-- Congruence of natural numbers. Everything rests on one pair of laws: u and v leave the same remainder
-- modulo m exactly when u + p * m ≡ v + q * m for some p and q. No subtraction and no integers are used.
-- The second half is about powers of two: a congruence modulo 2 ^ n is one modulo each lower power, and
-- an odd factor cancels, because it has an inverse.
use Rattle.std.proofs.Common.{◌≡◌, ℕ, zero, suc, ◌+◌, ◌-◌, ◌*◌, ◌/◌, ◌%◌, ◌^◌, ◌<◌, ◌≤◌, ◌⊎◌, sym, refl, ap, ◌∙◌, subst, inl, inr, ⊎_elim, mod-eq_of_lt, div-add-mod', sub-add_cancel, arith, pow-add}
use native.Mathlib.Nat.{add-mul-mod_self_right, mod-mod, mod-one}
pub use Rattle.words.specs.Congruence.{Congruent}

pub from_multiples : {m u v : ℕ} (p q : ℕ) → u + p * m ≡ v + q * m → Congruent m u v
from_multiples {m} {u} {v} p q e =
    record { same = sym (add-mul-mod_self_right u p m) ∙ ap (λ (k : ℕ). k % m) e ∙ add-mul-mod_self_right v q m }

pub to_multiples : {m u v : ℕ} → Congruent m u v → u + v / m * m ≡ v + u / m * m
to_multiples {m} {u} {v} h = omega (arith, div-add-mod' u m, div-add-mod' v m)

pub same_refl : (m u : ℕ) → Congruent m u u
same_refl m u = record { same = refl }

pub same_sym : {m u v : ℕ} → Congruent m u v → Congruent m v u
same_sym h = record { same = sym h.same }

pub same_trans : {m u v w : ℕ} → Congruent m u v → Congruent m v w → Congruent m u w
same_trans h k = record { same = h.same ∙ k.same }

pub same_of_eq : (m : ℕ) {u v : ℕ} → u ≡ v → Congruent m u v
same_of_eq m e = record { same = ap (λ (k : ℕ). k % m) e }

-- the same congruence with its sides written otherwise
pub same_regroup : {m u v s t : ℕ} → Congruent m u v → s ≡ u → v ≡ t → Congruent m s t
same_regroup {m} h e f = same_trans (same_of_eq m e) (same_trans h (same_of_eq m f))

-- a number and its remainder
pub same_mod : (m u : ℕ) → Congruent m (u % m) u
same_mod m u = record { same = mod-mod u m }

-- what a function that ensures r ≡ u % m gives
pub same_result : {m r : ℕ} (u : ℕ) → r ≡ u % m → Congruent m r u
same_result {m} u e = same_trans (same_of_eq m e) (same_mod m u)

pub same_add : {m a b c d : ℕ} → Congruent m a b → Congruent m c d → Congruent m (a + c) (b + d)
same_add {m} {a} {b} {c} {d} h k =
    from_multiples (b / m + d / m) (a / m + c / m) (omega (arith, to_multiples h, to_multiples k))

pub same_scale : {m a b : ℕ} (k : ℕ) → Congruent m a b → Congruent m (k * a) (k * b)
same_scale {m} {a} {b} k h =
    from_multiples (k * (b / m)) (k * (a / m)) (omega (arith, ap (λ (t : ℕ). k * t) (to_multiples h)))

pub same_mul : {m a b c d : ℕ} → Congruent m a b → Congruent m c d → Congruent m (a * c) (b * d)
same_mul {m} {a} {b} {c} {d} h k =
    same_trans (same_scale a k) (same_regroup (same_scale d h) (omega arith) (omega arith))

-- what is added on both sides goes
pub same_add_cancel : {m a b c d : ℕ} → Congruent m (a + c) (b + d) → Congruent m c d → Congruent m a b
same_add_cancel {m} {a} {b} {c} {d} h k =
    from_multiples ((b + d) / m + c / m) ((a + c) / m + d / m) (omega (arith, to_multiples h, to_multiples k))

-- below m, congruent numbers are equal
pub same_below : {m u v : ℕ} → Congruent m u v → u < m → v < m → u ≡ v
same_below h a b = sym (mod-eq_of_lt a) ∙ h.same ∙ mod-eq_of_lt b

-- modulo a multiple of m, then modulo m
pub same_factor : (d : ℕ) {m u v : ℕ} → Congruent (d * m) u v → Congruent m u v
same_factor d {m} {u} {v} h =
    from_multiples (v / (d * m) * d) (u / (d * m) * d) (omega (arith, to_multiples h))

-- modulo 2 ^ n, then modulo each lower power of two
pub same_lower : {n : ℕ} (k : ℕ) {u v : ℕ} → k ≤ n → Congruent (2 ^ n) u v → Congruent (2 ^ k) u v
same_lower {n} k {u} {v} h e =
    same_factor (2 ^ (n - k))
    (subst (λ (m : ℕ). Congruent m u v) (ap (λ (j : ℕ). 2 ^ j) (sym (sub-add_cancel h)) ∙ pow-add 2 (n - k) k) e)

-- a reduction modulo 2 ^ n does not change what stands below the place k ≤ n
pub mod_lower : (n k u : ℕ) → k ≤ n → u % 2 ^ n % 2 ^ k ≡ u % 2 ^ k
mod_lower n k u h = (same_lower k h (same_mod (2 ^ n) u)).same

-- what `a.wrapping_sub(b)` gives: b added to it wraps back to a
pub sub_wraps : (a b : ℕ) → a < 2 ^ 64 → b < 2 ^ 64 → ((a + (2 ^ 64 - b)) % 2 ^ 64 + b) % 2 ^ 64 ≡ a
sub_wraps a b h k = omega arith

-- an inverse of a modulo 2 ^ k
pub record Inverse (a k : ℕ) : Type 0 where
  pub inverse : ℕ
  pub unit : Congruent (2 ^ k) (a * inverse) 1

-- a remainder modulo 2 is 0 or 1
pub mod_two : (s : ℕ) → (s % 2 ≡ 0) ⊎ (s % 2 ≡ 1)
mod_two s = go (s % 2) (omega arith)
  where
    go : (r : ℕ) → r < 2 → (r ≡ 0) ⊎ (r ≡ 1)
    go zero h = inl refl
    go (suc zero) h = inr refl
    go (suc (suc r)) h = absurd (omega arith)

-- half of an even number, twice
pub even_half : (s p : ℕ) → s % 2 ≡ 0 → s / 2 * (p + p) ≡ s * p
even_half s p h = let e : s / 2 + s / 2 ≡ s = omega arith in omega (arith, ap (λ (t : ℕ). t * p) e)

-- one place further: the inverse stays where the quotients' sum is even, and gains 2 ^ k where it is odd
next_inverse : (a k : ℕ) → a % 2 ≡ 1 → Inverse a k → Inverse a (suc k)
next_inverse a k odd i = ⊎_elim even_case odd_case (mod_two s)
  where
    b : ℕ
    b = i.inverse

    P : ℕ
    P = 2 ^ k

    p : ℕ
    p = 1 / P

    s : ℕ
    s = p + a * b / P

    e : a * b + 1 / P * P ≡ 1 + a * b / P * P
    e = to_multiples i.unit

    even_case : s % 2 ≡ 0 → Inverse a (suc k)
    even_case h =
        record {
          inverse = b;
          unit =
              from_multiples p (s / 2)
              (let d : s / 2 * (P + P) ≡ s * P = even_half s P h in
              let t : 2 ^ suc k ≡ P + P = omega arith in
              rw t (omega (arith, e)));
        }

    odd_case : s % 2 ≡ 1 → Inverse a (suc k)
    odd_case h =
        record {
          inverse = b + P;
          unit =
              from_multiples p ((s + a) / 2)
              (let d : (s + a) / 2 * (P + P) ≡ (s + a) * P = even_half (s + a) P (omega arith) in
              let t : 2 ^ suc k ≡ P + P = omega arith in
              rw t (omega (arith, e)));
        }

-- an odd number has an inverse modulo each power of two
pub odd_inverse : (a : ℕ) → a % 2 ≡ 1 → (k : ℕ) → Inverse a k
odd_inverse a odd zero = record { inverse = 0; unit = record { same = mod-one (a * 0) ∙ sym (mod-one 1) } }
odd_inverse a odd (suc k) = next_inverse a k odd (odd_inverse a odd k)

-- an odd factor cancels modulo each power of two
pub odd_cancel : (a : ℕ) → a % 2 ≡ 1 → (k : ℕ) {u v : ℕ} → Congruent (2 ^ k) (a * u) (a * v) → Congruent (2 ^ k) u v
odd_cancel a odd k {u} {v} h = same_trans (same_sym (once u)) (same_trans (same_scale b h) (once v))
  where
    b : ℕ
    b = (odd_inverse a odd k).inverse

    once : (w : ℕ) → Congruent (2 ^ k) (b * (a * w)) w
    once w =
        same_regroup (same_scale w (odd_inverse a odd k).unit) (omega arith) (omega arith)
