-- What the contracts of reading and writing a line cite.
use Rattle.std.specs.Prelude.{◌≡◌, Bool, true, false, List, ◌++◌, ℕ, length, drop, Option, Some, None}
use Rattle.fields.specs.Line.{numbers_from, is_line}

-- the answer of reading as many numbers as there is room for, and the room behind it
pub record LineRead (bytes before after : List ℕ) (answer : Bool) : Type 0 where
  pub is_line_lem : answer ≡ is_line (length before) bytes
  pub numbers : answer ≡ true → after ≡ numbers_from 0 bytes

-- the same, where n numbers are answered or none
abbrev pub ArrayRead : List ℕ → ℕ → Option (List ℕ) → Type 0
ArrayRead bytes n (Some numbers) = (is_line n bytes ≡ true) × (numbers ≡ numbers_from 0 bytes)
ArrayRead bytes n None = is_line n bytes ≡ false

-- a buffer, before and after n bytes were written to its front
pub record FrontWritten (bytes before after : List ℕ) (n : ℕ) : Type 0 where
  pub whole : after ≡ bytes ++ drop (length bytes) before
  pub count : n ≡ length bytes
