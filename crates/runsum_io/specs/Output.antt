-- What the program prints, for everything that the file may hold (SCOPE 7.7).
use Rattle.std.specs.Prelude.{List, ℕ, zero, suc}
use Rattle.fields.specs.Codec.{FrontWritten}
use Rattle.summary.specs.Summary.{summary_of}
use Rattle.archive_io.specs.declared.input.Rest.{Rest}
use Rattle.notices.specs.declared.notice.Notice.TheVariants.{Refused, Unread}
use Rattle.notices.specs.Notice.{notice_line}
use Rattle.archive_io.specs.Source.{Source, holds, unreadable, ReadOf}
use Rattle.runsum_text.specs.Text.{summary_text}

-- The text of an archive that the summary accepts; else the line that says why there is none.
unfoldable pub output_of : List ℕ → List ℕ
output_of bytes =
    elim (summary_of bytes).refusal [
      | zero ↦ summary_text bytes
      | suc n ↦ notice_line (Refused (suc n) (summary_of bytes).line)
    ]

abbrev pub output_for : Source → List ℕ
output_for (holds bytes) = output_of bytes
output_for unreadable = notice_line Unread

-- The promise: whatever the file holds, what is written to the buffer's front is what is to be printed.
pub record OutputPromise (archive : List ℕ) (rest : Rest) (before after : List ℕ) (n : ℕ) : Type 0 where
  pub written : (file : Source) → ReadOf file archive rest → FrontWritten (output_for file) before after n
