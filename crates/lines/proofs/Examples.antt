-- Small examples of the definitions, computed.
use mathlib.Core.Path.{◌≡◌, refl}
use mathlib.Core.List.{[], ◌∷◌}
use lib.ListN.{length}
use Rattle.decimals.specs.Digits.{last_digits, digits_of}
use Rattle.fields.specs.Line.{fields_line}
use Rattle.runs.proofs.Examples.{run}
use Rattle.lines.specs.Line.{line_of}

-- "4,5,3,1,0,16" and byte 10
line : line_of (run 4 5 3 1 0 16) ≡ 52 ∷ 44 ∷ 53 ∷ 44 ∷ 51 ∷ 44 ∷ 49 ∷ 44 ∷ 48 ∷ 44 ∷ 49 ∷ 54 ∷ 10 ∷ []
unfolding fields_line digits_of last_digits
line = refl

-- a longest line: width 64, four numbers of 20 digits, and of first and count one with 19
longest :
    length (line_of (run 64 18446744073709551615 18446744073709551615 18446744073709551615 10000000000000000000 8446744073709551615))
    ≡ 107
unfolding fields_line digits_of last_digits
longest = refl
