-- The line that the program writes for each outcome.
use Rattle.std.specs.Prelude.{List, [], ◌∷◌, ℕ, Result, Ok, Err}
use Rattle.fields.specs.Line.{fields_line}
use Rattle.notices.specs.declared.notice.Notice.{Notice}
use Rattle.notices.specs.Notice.{notice_line}
use Rattle.lookup.specs.declared.location.Location.{Location}

abbrev pub outcome_line : Result Location Notice → List ℕ
outcome_line (Ok location) = fields_line (location.line ∷ location.position ∷ [])
outcome_line (Err notice) = notice_line notice
