-- What is written of the second run of document 01's archive, computed.
use mathlib.Core.Path.{◌≡◌, refl}
use Rattle.generator.specs.Recurrence.{modulus, step, element}
use Rattle.fields.specs.Ascii.{ascii}
use Rattle.decimals.specs.Digits.{last_digits, digits_of}
use Rattle.fields.specs.Line.{fields_line}
use Rattle.runs.specs.declared.Run.{Run}
use Rattle.runs.specs.Run.{shows}
use Rattle.remake.specs.Remake.{shown_from}
use Rattle.runshow_text.specs.Text.{numbers_lines}

abbrev second : Run
second = record { generator = record { width = 10; multiplier = 371; increment = 995; seed = 73 }; first = 100; count = 8 }

numbers : numbers_lines (shown_from second 0 8) ≡ ascii "49\n742\n821\n434\n217\n606\n541\n1002\n"
unfolding numbers_lines shown_from shows element step modulus fields_line digits_of last_digits
numbers = refl
