-- What the program prints for document 01's archive and some questions, computed.
use mathlib.Core.Path.{◌≡◌, refl}
use mathlib.Core.List.{List, [], ◌∷◌, map}
use Prim.Native.Nat.{ℕ}
use Rattle.sequences.specs.Least.{least}
use Rattle.generator.specs.Recurrence.{modulus, step, element}
use Rattle.generator.specs.Check.{refusal_of}
use Rattle.fields.specs.Ascii.{ascii}
use Rattle.decimals.specs.Digits.{last_digits, digits_of}
use Rattle.fields.specs.Line.{fields_line, numbers_from, is_line}
use Rattle.runs.specs.Run.{shows, run_refusal}
use Rattle.lines.specs.ReadLine.{read_of}
use Rattle.archive.specs.Archive.{lines_of}
use Rattle.archive.specs.Check.{is_among, first_refused, check_of}
use Rattle.lookup.specs.Lookup.{position_of, first_showing, lookup_of}
use Rattle.archive_io.specs.Source.{Source, holds, unreadable}
use Rattle.std.proofs.Common.{None, Some}
use Rattle.runfind_answer.specs.Decision.{asked_of, outcome_for}
use Rattle.runfind_output.specs.Output.{outcome_line}

-- the largest question, and bytes that are none
questions :
    map (λ bytes. asked_of (holds bytes))
    (ascii "18446744073709551615\n"
    ∷ ascii "18446744073709551616\n"
    ∷ ascii "18446744073709551615\nx"
    ∷ ascii "5"
    ∷ ascii "05\n"
    ∷ ascii "5\r\n"
    ∷ ascii "\n"
    ∷ ascii ""
    ∷ [])
    ≡ Some 18446744073709551615 ∷ None ∷ None ∷ None ∷ None ∷ None ∷ None ∷ None ∷ []
unfolding is_line numbers_from fields_line digits_of last_digits
questions = refl

-- a question, and what the file holds
abbrev printed : List ℕ → Source → List ℕ
printed input file = outcome_line (outcome_for (asked_of (holds input)) file)

abbrev two : Source
two = holds (ascii "4,5,3,1,0,16\n10,371,995,73,100,8\n")

answers :
    printed (ascii "5\n") two
    ∷ printed (ascii "49\n") two
    ∷ printed (ascii "985\n") two
    ∷ printed (ascii "5\n") (holds (ascii "4,5,3,1,0,16\n4,5,3"))
    ∷ printed (ascii "5\n") (holds (ascii "4,5,3,1,0,16\n4,5,3,1,0,16\n"))
    ∷ printed (ascii "5\n") unreadable
    ∷ printed (ascii "5") unreadable
    ∷ []
    ≡ ascii "1,4\n" ∷ ascii "2,0\n" ∷ ascii "none\n" ∷ ascii "refused,2,2\n" ∷ ascii "refused,11,2\n" ∷ ascii "unread\n" ∷ ascii "question\n" ∷ []
unfolding lookup_of first_showing position_of least shows element step
    check_of first_refused is_among lines_of read_of is_line numbers_from fields_line digits_of last_digits run_refusal refusal_of modulus
answers = refl
