-- The lookup in document 01's archive and in refused ones, computed.
use mathlib.Core.Path.{◌≡◌, refl}
use mathlib.Core.List.{[], ◌∷◌, map}
use Rattle.sequences.specs.Least.{least}
use Rattle.generator.specs.Recurrence.{modulus, step, element}
use Rattle.generator.specs.Check.{refusal_of}
use Rattle.decimals.specs.Digits.{last_digits, digits_of}
use Rattle.fields.specs.Line.{fields_line, numbers_from, is_line}
use Rattle.runs.specs.Run.{shows, run_refusal}
use Rattle.lines.specs.ReadLine.{read_of}
use Rattle.archive.proofs.Examples.{two, refused}
use Rattle.archive.specs.Archive.{lines_of}
use Rattle.archive.specs.Check.{is_among, first_refused, check_of}
use Rattle.lookup.specs.Lookup.{position_of, first_showing, lookup_of, found_at, found_none, lookup_refused}

-- 5 is at line 1, position 4; 49 at line 2, position 0; 985 and 16 nowhere; nothing in the empty archive
lookups :
    lookup_of [] 5 ∷ map (lookup_of two) (5 ∷ 49 ∷ 985 ∷ 16 ∷ [])
    ≡ found_none ∷ found_at 1 4 ∷ found_at 2 0 ∷ found_none ∷ found_none ∷ []
unfolding lookup_of first_showing position_of least shows element step
    check_of first_refused is_among lines_of read_of is_line numbers_from fields_line digits_of last_digits run_refusal refusal_of modulus
lookups = refl

lookup_refusals : map (λ bytes. lookup_of bytes 5) refused ≡ lookup_refused 11 3 ∷ lookup_refused 2 3 ∷ lookup_refused 5 1 ∷ []
unfolding lookup_of
    check_of first_refused is_among lines_of read_of is_line numbers_from fields_line digits_of last_digits run_refusal refusal_of modulus
lookup_refusals = refl
