-- How many numbers the program prints.
use Rattle.std.specs.Prelude.{◌≡◌, ℕ, Option, Some, Result, Ok, Err}
use Rattle.notices.specs.declared.notice.Notice.{Notice}
use Rattle.runshow_text.specs.declared.text.Part.{Part}
use Rattle.runshow_text.specs.Text.{part_due}

abbrev pub outcome_due : Result Part Notice → ℕ
outcome_due (Ok part) = part_due part.run part.first part.many
outcome_due (Err notice) = 0

-- The promise of printing: where all was written, as many numbers were shown as are due.
pub record ShownPromise (due : ℕ) (shown : Option ℕ) : Type 0 where
  pub all : (count : ℕ) → shown ≡ Some count → count ≡ due
