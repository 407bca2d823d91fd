-- The line of a run, of six fields (SCOPE 4.2).
use Rattle.std.specs.Prelude.{List, [], ◌∷◌, ℕ, ◌^◌, get_or}
use Rattle.fields.specs.Line.{AllBelow, fields_line}
use Rattle.runs.specs.declared.Run.{Run}

-- The six numbers, in their order.
abbrev pub numbers_of : Run → List ℕ
numbers_of run =
    run.generator.width
    ∷ run.generator.multiplier
    ∷ run.generator.increment
    ∷ run.generator.seed
    ∷ run.first
    ∷ run.count
    ∷ []

abbrev pub line_of : Run → List ℕ
line_of run = fields_line (numbers_of run)

-- The run of six numbers.
abbrev pub run_of : List ℕ → Run
run_of vs =
    record {
      generator =
          record { width = get_or vs 0 0; multiplier = get_or vs 1 0; increment = get_or vs 2 0; seed = get_or vs 3 0 };
      first = get_or vs 4 0;
      count = get_or vs 5 0;
    }

-- The six numbers are unsigned 64-bit numbers.
abbrev pub FitsWords : Run → Type 0
FitsWords run = AllBelow (2 ^ 64) (numbers_of run)

-- The run of zeros, which stands in for one that is not there.
abbrev pub no_run : Run
no_run =
    record { generator = record { width = 0; multiplier = 0; increment = 0; seed = 0 }; first = 0; count = 0 }
