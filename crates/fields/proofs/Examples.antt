-- Which bytes are a line, computed.
use mathlib.Core.Path.{◌≡◌, refl}
use mathlib.Core.Bool.{true, false}
use mathlib.Core.List.{[], ◌∷◌, map}
use Rattle.fields.specs.Ascii.{ascii}
use Rattle.decimals.specs.Digits.{digits_of, last_digits}
use Rattle.fields.specs.Line.{fields_line, numbers_from, is_line}

-- the guess: what stands behind the last byte that is no digit is no number
guesses :
    map (numbers_from 0) (ascii "4,50\n" ∷ ascii "4,50" ∷ ascii "07,\r\n" ∷ ascii "" ∷ [])
    ≡ (4 ∷ 50 ∷ []) ∷ (4 ∷ []) ∷ (7 ∷ 0 ∷ 0 ∷ []) ∷ [] ∷ []
unfolding numbers_from
guesses = refl

-- lines of two fields
lines : map (is_line 2) (ascii "4,50\n" ∷ ascii "0,0\n" ∷ ascii "18446744073709551615,1\n" ∷ []) ≡ true ∷ true ∷ true ∷ []
unfolding is_line numbers_from fields_line digits_of last_digits
lines = refl

-- and none: byte 10 missing, a leading zero, 2^64, three fields, one, a delimiter for another, an empty field, no bytes
damaged :
    map (is_line 2)
    (ascii "4,50"
    ∷ ascii "07,1\n"
    ∷ ascii "18446744073709551616,1\n"
    ∷ ascii "4,50,1\n"
    ∷ ascii "4\n"
    ∷ ascii "4\n50,"
    ∷ ascii ",50\n"
    ∷ ascii ""
    ∷ [])
    ≡ false ∷ false ∷ false ∷ false ∷ false ∷ false ∷ false ∷ false ∷ []
unfolding is_line numbers_from fields_line digits_of last_digits
damaged = refl
