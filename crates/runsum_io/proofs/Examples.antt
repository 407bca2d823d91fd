-- What the program prints for document 01's archive and some others, computed.
use mathlib.Core.Path.{◌≡◌, refl}
use mathlib.Core.List.{[], ◌∷◌, map}
use Rattle.sequences.specs.Least.{least}
use Rattle.sequences.specs.Index.{index_of, occurs}
use Rattle.sequences.specs.Distinct.{count_of, is_new, distinct_of}
use Rattle.generator.specs.Recurrence.{modulus, step, element}
use Rattle.generator.specs.Check.{refusal_of}
use Rattle.fields.specs.Ascii.{ascii}
use Rattle.decimals.specs.Digits.{last_digits, digits_of}
use Rattle.fields.specs.Line.{fields_line, numbers_from, is_line}
use Rattle.runs.specs.Run.{shows, run_refusal}
use Rattle.lines.specs.ReadLine.{read_of}
use Rattle.variety.specs.Variety.{variety_of}
use Rattle.archive.specs.Archive.{lines_of}
use Rattle.archive.specs.Check.{is_among, first_refused, check_of}
use Rattle.summary.specs.Summary.{total_of, runs_summary, summary_of}
use Rattle.archive_io.specs.Source.{holds, unreadable}
use Rattle.runsum_text.specs.Text.{runs_text, summary_text}
use Rattle.runsum_io.specs.Output.{output_of, output_for}

-- document 01's archive and the empty one; an even multiplier and width 0; a bad line, behind a sum of 2^64 too; that sum
-- alone; a file that can't be read
outputs :
    map output_for
    (holds (ascii "4,5,3,1,0,16\n10,371,995,73,100,8\n")
    ∷ holds []
    ∷ holds (ascii "4,2,0,1,3,10\n0,16807,0,1,0,3\n")
    ∷ holds (ascii "4,5,3,1,0,16\n4,5,3")
    ∷ holds (ascii "4,5,3,1,0,18446744073709551600\n4,5,3,1,0,16\n4,5,3,1,0,0\n")
    ∷ holds (ascii "4,5,3,1,0,18446744073709551600\n4,5,3,1,0,16\n")
    ∷ holds (ascii "4,5,3,1,0,18446744073709551600\n4,5,3,1,0,18446744073709551600\n")
    ∷ unreadable
    ∷ [])
    ≡ ascii "1,16,16\n2,8,8\ntotal,24\n"
    ∷ ascii "total,0\n"
    ∷ ascii "1,10,2\n2,3,3\ntotal,13\n"
    ∷ ascii "refused,2,2\n"
    ∷ ascii "refused,5,3\n"
    ∷ ascii "refused,10,0\n"
    ∷ ascii "refused,11,2\n"
    ∷ ascii "unread\n"
    ∷ []
unfolding output_of summary_text runs_text summary_of runs_summary total_of
    variety_of distinct_of count_of is_new occurs index_of least shows element step
    check_of first_refused is_among lines_of read_of is_line numbers_from fields_line digits_of last_digits run_refusal refusal_of modulus
outputs = refl
