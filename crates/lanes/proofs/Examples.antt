-- Lanes, computed: the rule of k steps, how many positions fall to each lane, four watches with one run, equal lanes, and the order of
-- the refusals.
use mathlib.Core.Path.{◌≡◌, refl}
use mathlib.Core.List.{List, [], ◌∷◌, map, ◌++◌}
use Prim.Native.Nat.{ℕ}
use lib.ListN.{drop}
use Rattle.sequences.specs.Gap.{stepped}
use Rattle.sequences.specs.Distinct.{count_of}
use Rattle.decimals.specs.Digits.{last_digits, digits_of}
use Rattle.fields.specs.Line.{fields_line}
use Rattle.generator.specs.declared.Generator.{Generator}
use Rattle.generator.specs.Recurrence.{modulus, step, element}
use Rattle.generator.specs.Check.{refusal_of}
use Rattle.runs.specs.declared.Run.{Run}
use Rattle.runs.specs.Run.{shows, run_refusal}
use Rattle.runs.proofs.Examples.{run}
use Rattle.lines.specs.Line.{no_run}
use Rattle.lines.specs.ReadLine.{run_reply}
use Rattle.lines.specs.WriteLine.{buffer_after}
use Rattle.lanes.specs.Rule.{multiplier_of, increment_of}
use Rattle.lanes.specs.Lane.{lane_count, lane_of, lane_refusal, sum_of}
use Rattle.lanes.specs.WriteLane.{write_lane_refusal}

-- The rule of 1 step is the generator's own; of 16 steps at width 64; and of 3 steps with an even multiplier, 216 and 43 modulo 32.
abbrev wide : Generator
wide = record { width = 64; multiplier = 6364136223846793005; increment = 1442695040888963407; seed = 1 }

abbrev even : Generator
even = record { width = 5; multiplier = 6; increment = 1; seed = 1 }

multipliers : multiplier_of wide 1 ∷ multiplier_of wide 16 ∷ multiplier_of even 3 ∷ [] ≡ 6364136223846793005 ∷ 10186629832379121217 ∷ 24 ∷ []
unfolding multiplier_of stepped step modulus
multipliers = refl

increments : increment_of wide 1 ∷ increment_of wide 16 ∷ increment_of even 3 ∷ [] ≡ 1442695040888963407 ∷ 3646985772805368400 ∷ 11 ∷ []
unfolding increment_of stepped step modulus
increments = refl

-- Of 10 positions lanes 0 and 1 of 4 take three each, lanes 2 and 3 two each; of 4 each takes one.
counts : map (lane_count 4 10) (0 ∷ 1 ∷ 2 ∷ 3 ∷ []) ≡ 3 ∷ 3 ∷ 2 ∷ 2 ∷ []
unfolding lane_count count_of
counts = refl

total : sum_of (lane_count 4 10) 4 ∷ sum_of (lane_count 4 4) 4 ∷ sum_of (lane_count 16 37) 16 ∷ [] ≡ 10 ∷ 4 ∷ 37 ∷ []
unfolding sum_of lane_count count_of
total = refl

-- Document 01's second line with 10 positions, for four watches.
abbrev row : Run
row = run 10 371 995 73 100 10

four : map (lane_of row 4) (0 ∷ 1 ∷ 2 ∷ 3 ∷ [])
    ≡ run 10 401 24 49 0 3 ∷ run 10 401 24 742 0 3 ∷ run 10 401 24 821 0 2 ∷ run 10 401 24 434 0 2 ∷ []
unfolding lane_count count_of multiplier_of increment_of stepped element step modulus
four = refl

shown : map (shows row) (1 ∷ 5 ∷ 9 ∷ []) ∷ map (shows (run 10 401 24 742 0 3)) (0 ∷ 1 ∷ 2 ∷ []) ∷ []
    ≡ (742 ∷ 606 ∷ 342 ∷ []) ∷ (742 ∷ 606 ∷ 342 ∷ []) ∷ []
unfolding shows element step modulus
shown = refl

-- One lane is the run from its first element on. Lanes of a run that shows one number alone are equal.
whole : lane_of row 1 0 ≡ run 10 371 995 49 0 10
unfolding lane_count count_of multiplier_of increment_of stepped element step modulus
whole = refl

equal : lane_of (run 1 1 0 1 5 6) 3 0 ∷ lane_of (run 1 1 0 1 5 6) 3 2 ∷ [] ≡ run 1 1 0 1 0 2 ∷ run 1 1 0 1 0 2 ∷ []
unfolding lane_count count_of multiplier_of increment_of stepped element step modulus
equal = refl

-- 3 to 5 of the run come first; then 15: lanes 0, 17 and more than 10, a lane that is none of them, width 0.
refusals :
    lane_refusal (run 65 1 0 1 0 0) 0 0
    ∷ lane_refusal (run 4 16 3 1 0 0) 0 0
    ∷ lane_refusal (run 4 5 3 1 0 0) 0 0
    ∷ lane_refusal row 0 0
    ∷ lane_refusal row 10 9
    ∷ lane_refusal row 11 0
    ∷ lane_refusal row 4 3
    ∷ lane_refusal row 4 4
    ∷ lane_refusal (run 4 5 3 1 0 99) 16 15
    ∷ lane_refusal (run 4 5 3 1 0 99) 17 0
    ∷ lane_refusal (run 0 16807 0 1 0 9) 2 1
    ∷ []
    ≡ 3 ∷ 4 ∷ 5 ∷ 15 ∷ 0 ∷ 15 ∷ 0 ∷ 15 ∷ 0 ∷ 15 ∷ 15 ∷ []
unfolding lane_refusal run_refusal refusal_of modulus
refusals = refl

refused : run_reply (lane_refusal row 4 4) (lane_of row 4 4) ≡ record { refusal = 15; run = no_run }
unfolding lane_refusal run_refusal refusal_of modulus
refused = refl

-- "2,1,0,3,0,1" and byte 10: 12 bytes fit a buffer of 12 and no shorter one; 15 comes before 8.
abbrev small : Run
small = run 2 1 0 3 0 2

abbrev twelve : List ℕ
twelve = 0 ∷ 0 ∷ 0 ∷ 0 ∷ 0 ∷ 0 ∷ 0 ∷ 0 ∷ 0 ∷ 0 ∷ 0 ∷ 0 ∷ []

written : buffer_after (write_lane_refusal small 2 1 (twelve ++ (9 ∷ []))) (lane_of small 2 1) (twelve ++ (9 ∷ []))
    ≡ 50 ∷ 44 ∷ 49 ∷ 44 ∷ 48 ∷ 44 ∷ 51 ∷ 44 ∷ 48 ∷ 44 ∷ 49 ∷ 10 ∷ 9 ∷ []
unfolding
    write_lane_refusal lane_refusal run_refusal refusal_of lane_count count_of multiplier_of increment_of stepped element step modulus
    fields_line digits_of last_digits
written = refl

room :
    write_lane_refusal small 2 1 twelve
    ∷ write_lane_refusal small 2 1 (drop 1 twelve)
    ∷ write_lane_refusal small 2 2 []
    ∷ write_lane_refusal (run 2 4 0 3 0 2) 2 2 []
    ∷ []
    ≡ 0 ∷ 8 ∷ 15 ∷ 4 ∷ []
unfolding
    write_lane_refusal lane_refusal run_refusal refusal_of lane_count count_of multiplier_of increment_of stepped element step modulus
    fields_line digits_of last_digits
room = refl
