-- The hash over some numbers, from number to number. Its upper half is below 2^32, so a slot is one of as many as there are.
use Rattle.std.proofs.Common.{◌≡◌, ℕ, suc, ◌+◌, ◌*◌, ◌/◌, ◌%◌, ◌^◌, ◌<◌, ◌≤◌, List, [], ◌∷◌, length, get_or, drop, sym, ap, ◌∙◌, mul-le-mul_right, add-one, arith, drop_of_length-le, drop-cons}
use Rattle.chains.specs.Hash.{factor, hash_from, slot_of}

-- one number more
pub hash_next : (vs : List ℕ) (h : ℕ) {k sum product : ℕ} → hash_from 0 vs ≡ hash_from h (drop k vs) → k < length vs →
    sum ≡ (h + get_or vs k 0) % 2 ^ 64 → product ≡ sum * factor % 2 ^ 64 →
    hash_from 0 vs ≡ hash_from product (drop (k + 1) vs)
unfolding hash_from
hash_next vs h {k} {sum} {product} w l s p =
    w ∙ ap (hash_from h) (drop-cons vs k 0 l)
    ∙ ap (λ (n : ℕ). hash_from n (drop (suc k) vs)) (sym (p ∙ ap (λ (n : ℕ). n * factor % 2 ^ 64) s))
    ∙ ap (λ (j : ℕ). hash_from product (drop j vs)) (sym (add-one k))

pub hash_end : (h : ℕ) (vs : List ℕ) {k : ℕ} → length vs ≤ k → hash_from h (drop k vs) ≡ h
unfolding hash_from
hash_end h vs l = rw (drop_of_length-le vs l)

hash_small : (h : ℕ) (vs : List ℕ) → h < 2 ^ 64 → hash_from h vs < 2 ^ 64
unfolding hash_from
hash_small h [] l = l
hash_small h (v ∷ vs) l = hash_small ((h + v) % 2 ^ 64 * factor % 2 ^ 64) vs (omega arith)

pub slot_within : (vs : List ℕ) {slots : ℕ} → 0 < slots → slot_of vs slots < slots
unfolding slot_of
slot_within vs {slots} l = scaled (hash_from 0 vs / 2 ^ 32) (omega (arith, hash_small 0 vs (omega arith)))
  where
    scaled : (u : ℕ) → u < 2 ^ 32 → u * slots / 2 ^ 32 < slots
    scaled u h = omega (arith, mul-le-mul_right slots (let g : u ≤ 4294967295 = omega arith in g))

-- What the code computes of the hash.
pub slot_is : (vs : List ℕ) {h : ℕ} (slots : ℕ) → hash_from 0 vs ≡ h → h / 4294967296 * slots / 4294967296 ≡ slot_of vs slots
unfolding slot_of
slot_is vs slots e = rw e
