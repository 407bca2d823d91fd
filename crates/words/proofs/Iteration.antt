-- Newton's iteration doubles the places of an inverse. Let y = a x = t Q + 1 with Q = 2 ^ k, and s = 2 - y. Modulo Q Q
-- the square y y is 2 t Q + 1, so y s = 2 y - y y = 1. The subtraction is undone by adding y y on both sides.
use Rattle.std.proofs.Common.{◌≡◌, ℕ, ◌+◌, ◌*◌, ◌/◌, ◌%◌, ◌^◌, ◌≤◌, sym, refl, ap, ◌∙◌, ap₂, le_trans, lt_of_lt_of_le, mod-eq_of_lt, div-add-mod', arith, lit<, pow_mono, pow-add}
use Rattle.words.specs.Newton.{Doubles}
use Rattle.words.proofs.Congruence.{Congruent, from_multiples, same_refl, same_regroup, same_trans, same_sym, same_result, same_add, same_add_cancel, same_scale, same_lower}

module _ (a x s : ℕ) {y r : ℕ} (ey : y ≡ a * x % 2 ^ 64) (es : (s + y) % 2 ^ 64 ≡ 2) (er : r ≡ x * s % 2 ^ 64) where
  -- modulo 2 ^ j
  two : (j : ℕ) → j ≤ 64 → Congruent (2 ^ j) (s + a * x) 2
  two j l =
      same_lower j l
      (same_trans (same_add (same_refl _ s) (same_sym (same_result (a * x) ey))) (record { same = es }))

  squared : (k t : ℕ) → a * x ≡ t * 2 ^ k + 1 → Congruent (2 ^ (k + k)) (a * x * (a * x)) (t * 2 ^ k + (t * 2 ^ k + 1))
  squared k t e =
      from_multiples 0 (t * t)
      (let q : a * x * (a * x) ≡ (t * 2 ^ k + 1) * (t * 2 ^ k + 1) = ap₂ (λ (u v : ℕ). u * v) e e in
      let p : t * t * 2 ^ (k + k) ≡ t * t * (2 ^ k * 2 ^ k) = ap (λ (u : ℕ). t * t * u) (pow-add 2 k k) in
      omega arith)

  doubled : (k t : ℕ) → k + k ≤ 64 → a * x ≡ t * 2 ^ k + 1 → Congruent (2 ^ (k + k)) (a * r) 1
  doubled k t l e =
      same_trans (same_scale a (same_lower (k + k) l (same_result (x * s) er)))
      (same_regroup (same_add_cancel {a = a * x * s} {b = 1}
      (same_regroup (same_scale (a * x) (two (k + k) l)) (omega arith) (omega arith))
      (squared k t e))
      (omega arith) refl)

  pub newton_doubles : Doubles a x r
  newton_doubles =
      record {
        doubles =
            λ k one l e.
            (doubled k (a * x / 2 ^ k) l (sym (div-add-mod' (a * x) (2 ^ k)) ∙ ap (λ (u : ℕ). a * x / 2 ^ k * 2 ^ k + u) e)).same
            ∙ mod-eq_of_lt (lt_of_lt_of_le (lit< tt) (pow_mono (le_trans one (omega arith))));
      }

-- an odd number inverts itself in two places
pub odd_square : (a : ℕ) → a % 2 ≡ 1 → a * a % 2 ^ 2 ≡ 1
odd_square a odd =
    (from_multiples {m = 2 ^ 2} {u = a * a} {v = 1} 0 (a / 2 * (a / 2) + a / 2)
    (let q : a ≡ a / 2 * 2 + 1 = omega arith in
    let s : a * a ≡ (a / 2 * 2 + 1) * (a / 2 * 2 + 1) = ap₂ (λ (u v : ℕ). u * v) q q in
    omega arith)).same
