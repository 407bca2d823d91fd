-- The line that a program prints where it has nothing to show (SCOPE 7.2).
use Rattle.std.specs.Prelude.{List, [], ◌∷◌, ◌++◌, ℕ}
use Rattle.fields.specs.Line.{fields_line}
use Rattle.fields.specs.Ascii.{ascii}
use Rattle.notices.specs.declared.notice.Notice.{Notice}
use Rattle.notices.specs.declared.notice.Notice.TheVariants.{NotFound, Refused, BadQuestion, Unread}

abbrev pub refused_line : ℕ → ℕ → List ℕ
refused_line number line = ascii "refused," ++ fields_line (number ∷ line ∷ [])

abbrev pub notice_line : Notice → List ℕ
notice_line NotFound = ascii "none\n"
notice_line (Refused number line) = refused_line number line
notice_line BadQuestion = ascii "question\n"
notice_line Unread = ascii "unread\n"
