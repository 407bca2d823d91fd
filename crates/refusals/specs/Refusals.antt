-- The number of each refusal in documents 01 and 02, and the order of conditions (SCOPE 6).
use Rattle.std.specs.Prelude.{ℕ, zero, suc, Result, Ok, Err}
use Rattle.refusals.specs.declared.Refusal.{Refusal}
use Rattle.refusals.specs.declared.Refusal.TheVariants as refusal

-- The number of each refusal in documents 01 and 02, and its word there.
abbrev pub number_of : Refusal → ℕ
number_of refusal.ArchiveTooLong = 1  -- overlong
number_of refusal.MalformedLine = 2  -- spoiled line
number_of refusal.WidthOutOfRange = 3  -- width
number_of refusal.OperandOutOfRange = 4  -- operand
number_of refusal.RunOutOfRange = 5  -- run
number_of refusal.ValueOutOfRange = 6  -- misfit
number_of refusal.NotInvertible = 7  -- one-way
number_of refusal.BufferTooShort = 8  -- short sheet
number_of refusal.PlacesOutOfRange = 9  -- places
number_of refusal.TotalOverflow = 10  -- total
number_of refusal.DuplicateLine = 11  -- twin
number_of refusal.PositionOutOfRange = 12  -- off the run
number_of refusal.BookmarkInvalid = 13  -- mark
number_of refusal.Inexact = 14  -- inexact
number_of refusal.LanesOutOfRange = 15  -- lanes
number_of refusal.Incompatible = 16  -- unlike

-- The number that a check gives, 0 where it accepts.
abbrev pub check_number : Result (Unit {0}) Refusal → ℕ
check_number (Ok _) = 0
check_number (Err r) = number_of r

-- The first number that is not 0: of two lists of conditions, those of the first come first.
abbrev pub or_else : ℕ → ℕ → ℕ
or_else zero n = n
or_else (suc m) n = suc m
