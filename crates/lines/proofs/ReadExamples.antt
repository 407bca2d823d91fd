-- Reading lines, damaged ones among them, computed.
use mathlib.Core.Path.{◌≡◌, refl}
use mathlib.Core.List.{[], ◌∷◌, map}
use Rattle.generator.specs.Recurrence.{modulus}
use Rattle.generator.specs.Check.{refusal_of}
use Rattle.fields.specs.Ascii.{ascii}
use Rattle.decimals.specs.Digits.{last_digits, digits_of}
use Rattle.fields.specs.Line.{fields_line, numbers_from, is_line}
use Rattle.runs.specs.Run.{run_refusal}
use Rattle.lines.specs.ReadLine.{accepted_run, refused_run, read_of}
use Rattle.runs.proofs.Examples.{run}

-- document 01's two lines
lines :
    map read_of (ascii "4,5,3,1,0,16\n" ∷ ascii "10,371,995,73,100,8\n" ∷ [])
    ≡ accepted_run (run 4 5 3 1 0 16) ∷ accepted_run (run 10 371 995 73 100 8) ∷ []
unfolding read_of is_line numbers_from fields_line digits_of last_digits run_refusal refusal_of modulus
lines = refl

-- bytes that are no line: no byte 10, a leading zero, 2^64, seven fields, five, an empty line, no bytes, byte 13, a blank
others :
    map read_of
    (ascii "4,5,3,1,0,16"
    ∷ ascii "4,5,3,1,0,07\n"
    ∷ ascii "4,5,3,1,0,18446744073709551616\n"
    ∷ ascii "4,5,3,1,0,16,1\n"
    ∷ ascii "4,5,3,1,0\n"
    ∷ ascii "\n"
    ∷ ascii ""
    ∷ ascii "4,5,3,1,0,16\r\n"
    ∷ ascii "4,5,3,1, 0,16\n"
    ∷ [])
    ≡ refused_run 2
    ∷ refused_run 2
    ∷ refused_run 2
    ∷ refused_run 2
    ∷ refused_run 2
    ∷ refused_run 2
    ∷ refused_run 2
    ∷ refused_run 2
    ∷ refused_run 2
    ∷ []
unfolding read_of is_line numbers_from fields_line digits_of last_digits run_refusal refusal_of modulus
others = refl

-- lines of numbers that are no run: 3 to 5, the lowest that applies
refused :
    map read_of (ascii "65,99,3,1,0,0\n" ∷ ascii "4,16,3,1,0,0\n" ∷ ascii "4,5,3,1,18446744073709551614,2\n" ∷ [])
    ≡ refused_run 3 ∷ refused_run 4 ∷ refused_run 5 ∷ []
unfolding read_of is_line numbers_from fields_line digits_of last_digits run_refusal refusal_of modulus
refused = refl
