-- What the program shows of document 01's archive for some questions, computed.
use mathlib.Core.Path.{◌≡◌, refl}
use mathlib.Core.List.{List, [], ◌∷◌}
use Prim.Native.Nat.{ℕ}
use Rattle.generator.specs.Recurrence.{modulus}
use Rattle.generator.specs.Check.{refusal_of}
use Rattle.fields.specs.Ascii.{ascii}
use Rattle.decimals.specs.Digits.{last_digits, digits_of}
use Rattle.fields.specs.Line.{fields_line, numbers_from, is_line}
use Rattle.runs.specs.Run.{run_refusal}
use Rattle.lines.specs.Line.{run_of}
use Rattle.lines.specs.ReadLine.{read_of}
use Rattle.archive.specs.Archive.{lines_of, numbered}
use Rattle.archive.specs.Check.{is_among, first_refused, check_of}
use Rattle.archive_line.specs.Line.{line_at}
use Rattle.notices.specs.declared.notice.Notice.TheVariants.{NotFound, Refused, BadQuestion, Unread}
use Rattle.archive_io.specs.Source.{Source, holds, unreadable}
use Rattle.std.proofs.Common.{Result, Ok, Err}
use Rattle.notices.specs.declared.notice.Notice.{Notice}
use Rattle.runshow_text.specs.declared.text.Part.{Part}
use Rattle.runshow_answer.specs.Decision.{asked_of, outcome_of, outcome_for}

abbrev second : List ℕ
second = 10 ∷ 371 ∷ 995 ∷ 73 ∷ 100 ∷ 8 ∷ []

abbrev two : Source
two = holds (ascii "4,5,3,1,0,16\n10,371,995,73,100,8\n")

-- a question, and what the file holds
abbrev outcome : List ℕ → Source → Result Part Notice
outcome input file = outcome_for (asked_of (holds input)) file

outcomes :
    outcome (ascii "2,0,8\n") two
    ∷ outcome (ascii "2,7,18446744073709551615\n") two
    ∷ outcome (ascii "2,8,1\n") two
    ∷ outcome (ascii "2,0,0\n") two
    ∷ outcome (ascii "3,0,1\n") two
    ∷ outcome (ascii "0,0,1\n") two
    ∷ outcome (ascii "1,0,1\n") (holds (ascii "4,5,3,1,0,16\n4,5,3"))
    ∷ outcome (ascii "1,0,1\n") (holds (ascii "4,5,3,1,0,16\n4,5,3,1,0,16\n"))
    ∷ outcome (ascii "2,0,8\n") unreadable
    ∷ outcome (ascii "2,0\n") unreadable
    ∷ outcome (ascii "2,0,8,1\n") two
    ∷ []
    ≡ Ok (record { run = run_of second; first = 0; many = 8 })
    ∷ Ok (record { run = run_of second; first = 7; many = 18446744073709551615 })
    ∷ Err NotFound
    ∷ Err NotFound
    ∷ Err NotFound
    ∷ Err NotFound
    ∷ Err (Refused 2 2)
    ∷ Err (Refused 11 2)
    ∷ Err Unread
    ∷ Err BadQuestion
    ∷ Err BadQuestion
    ∷ []
unfolding outcome_of line_at numbered check_of first_refused is_among lines_of read_of is_line numbers_from fields_line digits_of last_digits
    run_refusal refusal_of modulus
outcomes = refl
