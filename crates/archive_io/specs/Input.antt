-- What a read tells of the bytes read so far, and, for the functions behind the decision, how many bytes have to be read where
-- more may follow.
use Rattle.std.specs.Prelude.{◌≡◌, Bool, true, false, ℕ, zero, suc, ◌+◌, ◌-◌, ◌≤◌, ◌<◌, min, Option, None, Some, Result, Ok, Err}
use Rattle.archive_io.specs.declared.input.Reading.{Reading}
use Rattle.archive_io.specs.declared.input.LastRead.{LastRead}
use Rattle.archive_io.specs.declared.input.Rest.{Rest}
use Rattle.archive_io.specs.declared.input.Rest.TheVariants.{Nothing, Unknown, Failed}

-- What a read gave: how many bytes, or none if it failed.
abbrev pub given : {E : Type 0} → Result ℕ E → Option ℕ
given (Ok n) = Some n
given (Err e) = None

-- What follows the bytes read, by what the last read gave: none is a failure, and 0 the end.
abbrev pub rest_after : Option ℕ → Rest
rest_after None = Failed
rest_after (Some zero) = Nothing
rest_after (Some (suc k)) = Unknown

-- How many bytes a read brought into so much room.
abbrev pub brought : Option ℕ → ℕ → ℕ
brought None room = 0
brought (Some n) room = min n room

-- The reading after a read that gave `got`, behind so many bytes and into so much room: a failure, however much came before.
abbrev pub reading_after : ℕ → Option ℕ → ℕ → Reading
reading_after before got room = record { n = before + brought got room; rest = rest_after got }

-- What is said of the bytes in a buffer of this length is what the last read gave.
abbrev pub After : ℕ → LastRead → Type 0
After size last = last.reading ≡ reading_after last.before last.got (size - last.before)

-- where more may follow, n is at least as many as are needed
abbrev pub Enough : ℕ → ℕ → Rest → Type 0
Enough needed n rest = rest ≡ Unknown → needed ≤ n

-- whether to read on: something may follow, and there is room for it
pub record GoesOn (size : ℕ) (reading : Reading) (answer : Bool) : Type 0 where
  pub room : answer ≡ true → (reading.rest ≡ Unknown) × (reading.n < size)
  pub done : answer ≡ false → Enough size reading.n reading.rest
