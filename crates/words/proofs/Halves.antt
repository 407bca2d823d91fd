-- The wrapping product over 32-bit halves is the product modulo 2 ^ 64. With a = a' * H + a'' and
-- b = b' * H + b'', H = 2 ^ 32, the product a' * b' counts H * H = 2 ^ 64 and goes, and the two cross terms count H.
use Rattle.std.proofs.Common.{◌≡◌, ℕ, ◌+◌, ◌*◌, ◌/◌, ◌%◌, ◌^◌, refl, ◌∙◌, ap₂, div-add-mod', arith}
use Rattle.words.proofs.Congruence.{Congruent, from_multiples, same_refl, same_regroup, same_trans, same_mod, same_result, same_add, same_scale}

-- the three products that count
split_product :
    (a b : ℕ) →
    Congruent (2 ^ 64)
    (a % 2 ^ 32 * (b % 2 ^ 32) + 2 ^ 32 * (a / 2 ^ 32 * (b % 2 ^ 32) + a % 2 ^ 32 * (b / 2 ^ 32)))
    (a * b)
split_product a b =
    from_multiples (a / 2 ^ 32 * (b / 2 ^ 32)) 0
    (let e : (a / 2 ^ 32 * 2 ^ 32 + a % 2 ^ 32) * (b / 2 ^ 32 * 2 ^ 32 + b % 2 ^ 32) ≡ a * b =
    ap₂ (λ (s t : ℕ). s * t) (div-add-mod' a (2 ^ 32)) (div-add-mod' b (2 ^ 32)) in
    omega arith)

pub halves_product :
    (a b : ℕ) {cross r : ℕ} →
    cross ≡ (a / 2 ^ 32 * (b % 2 ^ 32) + a % 2 ^ 32 * (b / 2 ^ 32)) % 2 ^ 64 →
    r ≡ (a % 2 ^ 32 * (b % 2 ^ 32) + cross * 2 ^ 32 % 2 ^ 64) % 2 ^ 64 →
    r ≡ a * b % 2 ^ 64
halves_product a b {cross} {r} e f = f ∙ (same_trans (same_add (same_refl _ _) shifted) (split_product a b)).same
  where
    both : ℕ
    both = a / 2 ^ 32 * (b % 2 ^ 32) + a % 2 ^ 32 * (b / 2 ^ 32)

    shifted : Congruent (2 ^ 64) (cross * 2 ^ 32 % 2 ^ 64) (2 ^ 32 * both)
    shifted =
        same_trans (same_mod (2 ^ 64) (cross * 2 ^ 32))
        (same_regroup (same_scale (2 ^ 32) (same_result both e)) (omega arith) refl)
