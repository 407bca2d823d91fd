-- The hash of some numbers, and the slot that it gives, of so many slots.
use Rattle.std.specs.Prelude.{ℕ, ◌+◌, ◌*◌, ◌/◌, ◌%◌, ◌^◌, List, [], ◌∷◌}

-- 2^64 over the golden ratio, odd: a product with it spreads a number over the upper bits
abbrev pub factor : ℕ
factor = 11400714819323198485

-- each number is added, and the sum multiplied by the factor
unfoldable pub hash_from : ℕ → List ℕ → ℕ
hash_from h [] = h
hash_from h (v ∷ vs) = hash_from ((h + v) % 2 ^ 64 * factor % 2 ^ 64) vs

unfoldable pub slot_of : List ℕ → ℕ → ℕ
slot_of vs slots = hash_from 0 vs / 2 ^ 32 * slots / 2 ^ 32
