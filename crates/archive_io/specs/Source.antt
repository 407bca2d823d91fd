-- Standard input and the file, of which no contract can say what they hold.
use Rattle.std.specs.Prelude.{◌≡◌, List, ◌++◌, ℕ}
use Rattle.archive_io.specs.declared.input.Rest.{Rest}
use Rattle.archive_io.specs.declared.input.Rest.TheVariants.{Nothing, Unknown, Failed}

-- Standard input, or the file: the bytes that it holds, or it can't be read.
pub data Source : Type 0 where
  holds : List ℕ → Source
  unreadable : Source

-- These bytes were read of the source: all that it holds, or its front, or the read failed.
abbrev pub ReadOf : Source → List ℕ → Rest → Type 0
ReadOf source bytes Nothing = source ≡ holds bytes
ReadOf source bytes Unknown = (rest : List ℕ) × (source ≡ holds (bytes ++ rest))
ReadOf source bytes Failed = source ≡ unreadable
