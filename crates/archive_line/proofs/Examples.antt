-- The lines of document 01's archive by number, computed.
use mathlib.Core.Path.{◌≡◌, refl}
use mathlib.Core.List.{[], ◌∷◌, ◌++◌, map}
use Prim.Native.Nat.{ℕ}
use Rattle.generator.specs.Recurrence.{modulus}
use Rattle.generator.specs.Check.{refusal_of}
use Rattle.fields.specs.Ascii.{ascii}
use Rattle.decimals.specs.Digits.{last_digits, digits_of}
use Rattle.fields.specs.Line.{fields_line, numbers_from, is_line}
use Rattle.runs.specs.Run.{run_refusal}
use Rattle.lines.specs.ReadLine.{read_of}
use Rattle.archive.specs.Archive.{lines_of, numbered}
use Rattle.archive.specs.Check.{is_among, first_refused, check_of}
use Rattle.archive.proofs.Examples.{two}
use Rattle.archive_line.specs.declared.Part.{Part}
use Rattle.archive_line.specs.Line.{line_at, part_from, part_of}

abbrev part : ℕ → ℕ → Part
part start length = record { start = start; length = length }

-- the lines by number, and their parts; of a refused archive none
numbers : map (line_at two) (0 ∷ 1 ∷ 2 ∷ 3 ∷ []) ≡ [] ∷ ascii "4,5,3,1,0,16\n" ∷ ascii "10,371,995,73,100,8\n" ∷ [] ∷ []
unfolding line_at numbered
    check_of first_refused is_among lines_of read_of is_line numbers_from fields_line digits_of last_digits run_refusal refusal_of modulus
numbers = refl

parts : map (part_of two) (0 ∷ 1 ∷ 2 ∷ 3 ∷ []) ≡ part 0 0 ∷ part 0 13 ∷ part 13 20 ∷ part 0 0 ∷ []
unfolding part_of part_from
    check_of first_refused is_among lines_of read_of is_line numbers_from fields_line digits_of last_digits run_refusal refusal_of modulus
parts = refl

refused_lines : map (λ bytes. line_at bytes 1) ((two ++ ascii "\n") ∷ (two ++ two) ∷ []) ≡ [] ∷ [] ∷ []
unfolding line_at check_of first_refused is_among lines_of read_of is_line numbers_from fields_line digits_of last_digits run_refusal refusal_of modulus
refused_lines = refl
