-- Summaries of document 01's archive and of others, computed.
use Prim.Native.Nat.{ℕ}
use mathlib.Core.Path.{◌≡◌, refl}
use mathlib.Core.List.{List, [], ◌∷◌, ◌++◌, map}
use Prim.Native.Nat.{ℕ}
use Rattle.generator.specs.Recurrence.{modulus}
use Rattle.generator.specs.Check.{refusal_of}
use Rattle.fields.specs.Ascii.{ascii}
use Rattle.decimals.specs.Digits.{last_digits, digits_of}
use Rattle.fields.specs.Line.{fields_line, numbers_from, is_line}
use Rattle.runs.specs.Run.{run_refusal}
use Rattle.lines.specs.ReadLine.{read_of}
use Rattle.archive.proofs.Examples.{two, refused}
use Rattle.archive.specs.Archive.{lines_of}
use Rattle.archive.specs.Check.{is_among, first_refused, check_of}
use Rattle.summary.specs.Summary.{total_of, summary_given, summary_refused, runs_summary, summary_of}

-- 2 lines and 24 numbers; nothing in the empty archive
summaries : map summary_of (two ∷ [] ∷ []) ≡ summary_given 2 24 ∷ summary_given 0 0 ∷ []
unfolding summary_of runs_summary total_of
    check_of first_refused is_among lines_of read_of is_line numbers_from fields_line digits_of last_digits run_refusal refusal_of modulus
summaries = refl

summary_refusals : map summary_of refused ≡ summary_refused 11 3 ∷ summary_refused 2 3 ∷ summary_refused 5 1 ∷ []
unfolding summary_of
    check_of first_refused is_among lines_of read_of is_line numbers_from fields_line digits_of last_digits run_refusal refusal_of modulus
summary_refusals = refl

-- an even multiplier and width 0; a sum of 2^64 − 1, and of 2^64; behind that a bad line or an equal one, which comes first
abbrev long : List ℕ
long = ascii "4,5,3,1,0,18446744073709551600\n"

totals :
    map summary_of
    (ascii "4,2,0,1,3,10\n0,16807,0,1,0,3\n"
    ∷ (long ++ ascii "4,5,3,1,0,15\n")
    ∷ (long ++ ascii "4,5,3,1,0,16\n")
    ∷ (long ++ ascii "4,5,3,1,0,16\n65,5,3,1,0,16\n")
    ∷ (long ++ ascii "4,5,3,1,0,16\n4,5,3,1,0,0\n")
    ∷ (long ++ long)
    ∷ [])
    ≡ summary_given 2 13
    ∷ summary_given 2 18446744073709551615
    ∷ summary_refused 10 0
    ∷ summary_refused 3 3
    ∷ summary_refused 5 3
    ∷ summary_refused 11 2
    ∷ []
unfolding summary_of runs_summary total_of
    check_of first_refused is_among lines_of read_of is_line numbers_from fields_line digits_of last_digits run_refusal refusal_of modulus
totals = refl
