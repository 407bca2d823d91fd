-- The variety, computed.
use mathlib.Core.Path.{◌≡◌, refl}
use mathlib.Core.List.{[], ◌∷◌, map}
use Rattle.sequences.specs.Least.{least}
use Rattle.generator.specs.Recurrence.{modulus, step, element}
use Rattle.sequences.specs.Index.{index_of, occurs}
use Rattle.sequences.specs.Distinct.{count_of, is_new, distinct_of}
use Rattle.runs.proofs.Examples.{run}
use Rattle.runs.specs.Run.{shows}
use Rattle.variety.specs.Variety.{variety_of}

-- 1, 8, 11, .. with period 16; 22, 2, 6, 18, 22, .. with period 4
varieties : map variety_of (run 4 5 3 1 0 10 ∷ run 4 5 3 1 0 20 ∷ run 5 3 0 2 7 9 ∷ []) ≡ 10 ∷ 16 ∷ 4 ∷ []
unfolding variety_of distinct_of count_of is_new occurs index_of least shows element step modulus
varieties = refl

-- 1, 2, 4, 8, 0, 0, .. from index 0, 3 and 4 on; 1, 7, 11, 3, 3, .. from index 0 and 2 on; a count of 1
early_varieties :
    map variety_of
    (run 4 2 0 1 0 10
    ∷ run 4 2 0 1 3 10
    ∷ run 4 2 0 1 4 10
    ∷ run 4 2 0 1 0 3
    ∷ run 4 6 1 1 0 10
    ∷ run 4 6 1 1 2 10
    ∷ run 4 6 1 1 0 1
    ∷ [])
    ≡ 5 ∷ 2 ∷ 1 ∷ 3 ∷ 4 ∷ 2 ∷ 1 ∷ []
unfolding variety_of distinct_of count_of is_new occurs index_of least shows element step modulus
early_varieties = refl
