-- Two numbers take at most 42 bytes.
use mathlib.Core.List.{[], ◌∷◌}
use Prim.Native.Nat.{ℕ, ◌^◌, ◌≤◌, ◌<◌}
use native.Mathlib.Omega.{arith}
use lib.ListN.{length, length-append}
use Rattle.fields.specs.Line.{fields_line}
use Rattle.decimals.proofs.Digits.{digits_length}

-- a field has at most 20 digits
pub pair_short : (v w : ℕ) → v < 2 ^ 64 → w < 2 ^ 64 → length (fields_line (v ∷ w ∷ [])) ≤ 42
unfolding fields_line
pair_short v w p q =
    simp length-append (omega (arith, digits_length v 19 (omega arith), digits_length w 19 (omega arith)))
