-- What the program shows or tells, for everything that standard input and the file may hold (SCOPE 7.4 on).
use Rattle.std.specs.Prelude.{cond, List, ℕ, zero, suc, eqb, ltb, get_or, Option, None, Some, Result, Ok, Err}
use Rattle.runs.specs.declared.Run.{Run}
use Rattle.lines.specs.ReadLine.{read_of}
use Rattle.archive.specs.Check.{check_of}
use Rattle.archive_line.specs.Line.{line_at}
use Rattle.notices.specs.declared.notice.Notice.{Notice}
use Rattle.notices.specs.declared.notice.Notice.TheVariants.{NotFound, Refused, BadQuestion, Unread}
use Rattle.archive_io.specs.Source.{Source, holds, unreadable}
use Rattle.questions.specs.Question.{is_question, numbers_asked}
use Rattle.runshow_text.specs.declared.text.Part.{Part}
use Rattle.runshow_answer.specs.declared.decision.Question.{Question}

-- A question has three fields: the number of a line, the first position, and how many.
abbrev pub three_of : List ℕ → Question
three_of vs = record { line = get_or vs 0 0; first = get_or vs 1 0; many = get_or vs 2 0 }

abbrev pub asked_of : Source → Option Question
asked_of stdin = cond (is_question 3 stdin) (Some (three_of (numbers_asked stdin))) None

-- The run shows something there: the position is below its count, and some numbers are asked for.
abbrev pub part_of_run : Run → ℕ → ℕ → Result Part Notice
part_of_run run first many =
    cond (ltb first run.count) (cond (eqb many 0) (Err NotFound) (Ok (record { run = run; first = first; many = many }))) (Err NotFound)

-- The archive is checked first. A line that is not there is the empty one, which reads as the run of zeros: no position is
-- below its count.
unfoldable pub outcome_of : List ℕ → ℕ → ℕ → ℕ → Result Part Notice
outcome_of bytes line first many =
    elim (check_of bytes).refusal [
      | zero ↦ part_of_run (read_of (line_at bytes line)).run first many
      | suc n ↦ Err (Refused (suc n) (check_of bytes).line)
    ]

-- The question is looked at first, then the file.
abbrev pub outcome_for : Option Question → Source → Result Part Notice
outcome_for None file = Err BadQuestion
outcome_for (Some q) unreadable = Err Unread
outcome_for (Some q) (holds bytes) = outcome_of bytes q.line q.first q.many
