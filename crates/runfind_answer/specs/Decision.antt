-- What the program tells, for everything that standard input and the file may hold (SCOPE 7.1, 7.2).
use Rattle.std.specs.Prelude.{cond, ℕ, eqb, get_or, Option, None, Some, Result, Ok, Err}
use Rattle.lookup.specs.declared.LookupReply.{LookupReply}
use Rattle.lookup.specs.Lookup.{lookup_of}
use Rattle.notices.specs.declared.notice.Notice.{Notice}
use Rattle.notices.specs.declared.notice.Notice.TheVariants.{NotFound, Refused, BadQuestion, Unread}
use Rattle.archive_io.specs.Source.{Source, holds, unreadable}
use Rattle.questions.specs.Question.{is_question, numbers_asked}
use Rattle.lookup.specs.declared.location.Location.{Location}

-- A question has one field.
abbrev pub asked_of : Source → Option ℕ
asked_of stdin = cond (is_question 1 stdin) (Some (get_or (numbers_asked stdin) 0 0)) None

abbrev pub outcome_of : LookupReply → Result Location Notice
outcome_of reply =
    cond (eqb reply.refusal 0)
    (cond (eqb reply.found 0) (Err NotFound) (Ok (record { line = reply.line; position = reply.position })))
    (Err (Refused reply.refusal reply.line))

-- The question is looked at first, then the file.
abbrev pub outcome_for : Option ℕ → Source → Result Location Notice
outcome_for None file = Err BadQuestion
outcome_for (Some v) unreadable = Err Unread
outcome_for (Some v) (holds bytes) = outcome_of (lookup_of bytes v)
