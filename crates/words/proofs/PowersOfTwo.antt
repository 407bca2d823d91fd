-- Powers of two as factors: a number is above none of its powers, a factor cancels against one in the modulus, and a product with
-- a number of v trailing zeros agrees in v places more than the factors do.
use Rattle.std.proofs.Common.{◌≡◌, ℕ, zero, suc, ◌+◌, ◌*◌, ◌/◌, ◌%◌, ◌^◌, ◌<◌, ◌↔◌, sym, refl, ap, ◌∙◌, ⊎_elim, le_of_eq, mul_assoc, mul_comm, add_comm, le_antisymm, div-add-mod', arith, pow_pos, pow-add}
use mathlib.Core.Logic.Iff
use native.Mathlib.Nat.{mul-mod_left, le_of_mul-le-mul_left}
use Rattle.words.specs.Alpha.{Alpha}
use Rattle.words.proofs.Congruence.{Congruent, from_multiples, to_multiples, same_scale, odd_cancel, mod_two, even_half}

-- a power of two is above its exponent
pub lt_two_pow : (n : ℕ) → n < 2 ^ n
lt_two_pow zero = pow_pos 0
lt_two_pow (suc n) = omega (arith, lt_two_pow n)

-- a factor d on both sides, and in the modulus
times_cancel : {d u w : ℕ} → 0 < d → d * u ≡ d * w → u ≡ w
times_cancel {d} {u} {w} h e =
    le_antisymm (le_of_mul-le-mul_left {k = d} (le_of_eq e) h) (le_of_mul-le-mul_left {k = d} (le_of_eq (sym e)) h)

same_times : (d : ℕ) → 0 < d → (m u w : ℕ) → Congruent m u w ↔ Congruent (d * m) (d * u) (d * w)
same_times d h m u w = (up, down)
  where
    up : Congruent m u w → Congruent (d * m) (d * u) (d * w)
    up c = from_multiples (w / m) (u / m) (omega (arith, ap (λ (t : ℕ). d * t) (to_multiples c)))

    down : Congruent (d * m) (d * u) (d * w) → Congruent m u w
    down c =
        let p = d * w / (d * m) in
        let q = d * u / (d * m) in
        let e : d * (u + p * m) ≡ d * (w + q * m) = omega (arith, to_multiples c) in from_multiples p q (times_cancel h e)

-- a number other than 0 is 2 ^ v times an odd number, v its α
pub record Split (a v : ℕ) : Type 0 where
  pub odd_part : ℕ
  pub odd : odd_part % 2 ≡ 1
  pub product : a ≡ 2 ^ v * odd_part

pub split : {a v : ℕ} → Alpha a v → (a ≡ 0 → ⊥) → Split a v
split {a} {v} α nonzero =
    record { odd_part = o; odd = ⊎_elim (λ e. absurd (even e)) (λ e. e) (mod_two o); product = whole }
  where
    o : ℕ
    o = a / 2 ^ v

    whole : a ≡ 2 ^ v * o
    whole = omega (arith, div-add-mod' a (2 ^ v), α.multiple)

    even : o % 2 ≡ 0 → ⊥
    even e =
        let p : 2 ^ suc v ≡ 2 ^ v + 2 ^ v = omega arith in
        let t : a ≡ o / 2 * 2 ^ suc v = whole ∙ mul_comm (2 ^ v) o ∙ sym (even_half o (2 ^ v) e) ∙ rw p refl in
        α.exact nonzero (ap (λ (k : ℕ). k % 2 ^ suc v) t ∙ mul-mod_left (o / 2) (2 ^ suc v))

-- products with a agree in v places more than the factors, and in no others
module _ {a v : ℕ} (s : Split a v) (m u w : ℕ) where
  pub split_places : Congruent (2 ^ m) u w ↔ Congruent (2 ^ (m + v)) (a * u) (a * w)
  split_places = (
    λ h. regroup.0 ((same_times (2 ^ v) (pow_pos v) (2 ^ m) (o * u) (o * w)).0 (same_scale o h)),
    λ h. odd_cancel o s.odd m ((same_times (2 ^ v) (pow_pos v) (2 ^ m) (o * u) (o * w)).1 (regroup.1 h)),
  )
    where
      o : ℕ
      o = s.odd_part

      modulus : 2 ^ v * 2 ^ m ≡ 2 ^ (m + v)
      modulus = sym (pow-add 2 v m) ∙ ap (λ (k : ℕ). 2 ^ k) (add_comm v m)

      factor : (t : ℕ) → 2 ^ v * (o * t) ≡ a * t
      factor t = sym (mul_assoc (2 ^ v) o t) ∙ ap (λ (k : ℕ). k * t) (sym s.product)

      regroup : Congruent (2 ^ v * 2 ^ m) (2 ^ v * (o * u)) (2 ^ v * (o * w)) ↔ Congruent (2 ^ (m + v)) (a * u) (a * w)
      regroup = rw (modulus, factor u, factor w) Iff.rfl
