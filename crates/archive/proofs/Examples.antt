-- Document 01's archive, the empty one and damaged ones, and the definitions of the calls computed on them.
use mathlib.Core.Path.{◌≡◌, refl}
use mathlib.Core.List.{List, [], ◌∷◌, ◌++◌, map}
use Prim.Native.Nat.{ℕ}
use Rattle.generator.specs.Recurrence.{modulus}
use Rattle.generator.specs.Check.{refusal_of}
use Rattle.fields.specs.Ascii.{ascii}
use Rattle.decimals.specs.Digits.{last_digits, digits_of}
use Rattle.fields.specs.Line.{fields_line, numbers_from, is_line}
use Rattle.runs.proofs.Examples.{run}
use Rattle.runs.specs.Run.{run_refusal}
use Rattle.lines.specs.ReadLine.{read_of}
use Rattle.archive.specs.Archive.{lines_of, runs_in, archive_of}
use Rattle.archive.specs.Check.{refused_at, is_among, first_refused, check_of}

abbrev pub two : List ℕ
two = ascii "4,5,3,1,0,16\n10,371,995,73,100,8\n"

-- its lines and its runs; bytes behind the last byte 10 are a line too
lines :
    map lines_of (two ∷ ascii "" ∷ ascii "\n\n12" ∷ [])
    ≡ (ascii "4,5,3,1,0,16\n" ∷ ascii "10,371,995,73,100,8\n" ∷ [])
    ∷ []
    ∷ (ascii "\n" ∷ ascii "\n" ∷ ascii "12" ∷ [])
    ∷ []
unfolding lines_of
lines = refl

runs : runs_in two ≡ run 4 5 3 1 0 16 ∷ run 10 371 995 73 100 8 ∷ []
unfolding lines_of numbers_from
runs = refl

bytes : archive_of (runs_in two) ≡ two
unfolding lines_of numbers_from archive_of fields_line digits_of last_digits
bytes = refl

-- accepted: this archive and the empty one; refused: a bad last line, of byte 10 missing, a leading zero, 2^64, seven
-- fields, an empty line, byte 13; and a run of count 0 in line 1 before a bad line 2
abbrev damaged : List (List ℕ)
damaged =
    (two ++ ascii "4,5,3\n")
    ∷ (two ++ ascii "4,5,3,1,0,16")
    ∷ (two ++ ascii "4,5,3,1,0,07\n")
    ∷ ascii "4,5,3,1,0,18446744073709551616\n"
    ∷ ascii "4,5,3,1,0,16,1\n"
    ∷ (two ++ ascii "\n")
    ∷ ascii "4,5,3,1,0,16\r\n"
    ∷ ascii "4,5,3,1,0,0\n\n"
    ∷ []

checks :
    map check_of (two ∷ [] ∷ damaged)
    ≡ refused_at 0 0
    ∷ refused_at 0 0
    ∷ refused_at 2 3
    ∷ refused_at 2 3
    ∷ refused_at 2 3
    ∷ refused_at 2 1
    ∷ refused_at 2 1
    ∷ refused_at 2 3
    ∷ refused_at 2 1
    ∷ refused_at 5 1
    ∷ []
unfolding check_of first_refused is_among lines_of read_of is_line numbers_from fields_line digits_of last_digits run_refusal refusal_of modulus
checks = refl

-- equal lines, the first and the last of three, neighbours, and three of them; before a bad line and behind one; no twin: a
-- last field with another last digit, and a line without its byte 10
abbrev twins : List (List ℕ)
twins =
    (two ++ ascii "4,5,3,1,0,16\n")
    ∷ (two ++ ascii "10,371,995,73,100,8\n")
    ∷ ascii "4,5,3,1,0,16\n4,5,3,1,0,16\n4,5,3,1,0,16\n"
    ∷ (two ++ ascii "4,5,3,1,0,16\n4,5,3\n")
    ∷ (two ++ ascii "4,5,3,1,0,0\n4,5,3,1,0,16\n")
    ∷ (two ++ ascii "4,5,3,1,0,17\n")
    ∷ ascii "4,5,3,1,0,16\n4,5,3,1,0,16"
    ∷ []

twin_checks :
    map check_of twins
    ≡ refused_at 11 3
    ∷ refused_at 11 3
    ∷ refused_at 11 2
    ∷ refused_at 11 3
    ∷ refused_at 5 3
    ∷ refused_at 0 0
    ∷ refused_at 2 2
    ∷ []
unfolding check_of first_refused is_among lines_of read_of is_line numbers_from fields_line digits_of last_digits run_refusal refusal_of modulus
twin_checks = refl

-- the whole archive is checked first: an equal last line, a bad one, and a run of count 0 in line 1
abbrev pub refused : List (List ℕ)
refused = (two ++ ascii "4,5,3,1,0,16\n") ∷ (two ++ ascii "4,5,3\n") ∷ ascii "4,5,3,1,0,0\n\n" ∷ []
