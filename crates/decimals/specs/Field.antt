-- What the contracts of reading and writing a field cite. A field is the digits of a number, with a byte behind them, its
-- delimiter.
use Rattle.std.specs.Prelude.{◌≡◌, List, ◌∷◌, ◌++◌, ℕ, ◌+◌, ◌≤◌, ◌<◌, ◌^◌, length, take, drop, Option, Some, None}
use Rattle.decimals.specs.Digits.{digits_of}
use Rattle.decimals.specs.declared.field.Field.{Field}

-- the bytes begin with the digits of v and the delimiter, and go on with s from next on
pub record FieldFound (bytes s : List ℕ) (delimiter v next : ℕ) : Type 0 where
  pub small : v < 2 ^ 64
  pub reads : bytes ≡ digits_of v ++ (delimiter ∷ drop next s)
  pub within : next ≤ length s

-- the bytes begin with the digits and the delimiter of no number
pub record NoField (bytes : List ℕ) (delimiter : ℕ) : Type 0 where
  pub none : (v : ℕ) (rest : List ℕ) → v < 2 ^ 64 → bytes ≡ digits_of v ++ (delimiter ∷ rest) → ⊥

-- what an answer says of the field at the front of the bytes, with which s ends
abbrev pub FieldOf : List ℕ → List ℕ → ℕ → Option Field → Type 0
FieldOf bytes s delimiter (Some field) = FieldFound bytes s delimiter field.number field.next
FieldOf bytes s delimiter None = NoField bytes delimiter

-- a buffer, before and after the digits of v and the delimiter were written to it, from at up to next
pub record Written (before after : List ℕ) (at v delimiter next : ℕ) : Type 0 where
  pub ends : next ≡ at + length (digits_of v) + 1
  pub bytes : after ≡ take at before ++ (digits_of v ++ (delimiter ∷ drop next before))
