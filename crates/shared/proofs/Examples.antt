-- What two runs share, and the refusals, computed.
use mathlib.Core.Path.{◌≡◌, refl}
use mathlib.Core.List.{[], ◌∷◌, map}
use Prim.Native.Nat.{ℕ}
use Rattle.sequences.specs.Least.{least}
use Rattle.sequences.specs.Index.{index_of, occurs}
use Rattle.sequences.specs.Distinct.{count_of, is_new}
use Rattle.sequences.specs.Common.{common_of, arcs_share}
use Rattle.generator.specs.Recurrence.{modulus, step, element}
use Rattle.generator.specs.Check.{refusal_of}
use Rattle.runs.specs.declared.Run.{Run}
use Rattle.runs.specs.Run.{shows, run_refusal}
use Rattle.runs.proofs.Examples.{run}
use Rattle.shared.specs.Shared.{rule_refusal, shared_refusal, shared_of}

-- 4,5,3 goes 1, 8, 11, 10, 5, 12, 15, 14, 9, 0, 3, 2, 13, 4, 7, 6, and round: eight from index 0 on
abbrev stand : ℕ → ℕ → ℕ → Run
stand x s l = run 4 5 3 x s l

-- beside them: four from index 6 on; from 8 on, where they end; four before they start; twelve from 10 on, which pass the end;
-- two in the midst; twelve from 6 on, which have both ends; more than the period; the seed 5, index 4, from its index 2 on
overlaps :
    map (shared_of (stand 1 0 8))
    (stand 1 6 4 ∷ stand 1 8 4 ∷ stand 1 12 4 ∷ stand 1 10 12 ∷ stand 1 3 2 ∷ stand 1 6 12 ∷ stand 1 2 40 ∷ stand 5 2 9 ∷ [])
    ≡ 2 ∷ 0 ∷ 0 ∷ 6 ∷ 2 ∷ 4 ∷ 8 ∷ 2 ∷ []
unfolding shared_of common_of count_of is_new occurs index_of least shows element step modulus
overlaps = refl

-- the same, by the places of two arcs on a circle of 16
arcs :
    arcs_share 16 8 6 4 ∷ arcs_share 16 8 8 4 ∷ arcs_share 16 8 12 4 ∷ arcs_share 16 8 10 12 ∷ arcs_share 16 8 3 2 ∷ arcs_share 16 8 6 12
    ∷ arcs_share 16 8 2 40 ∷ arcs_share 16 8 6 9 ∷ []
    ≡ 2 ∷ 0 ∷ 0 ∷ 6 ∷ 2 ∷ 4 ∷ 8 ∷ 2 ∷ []
arcs = refl

-- 4,1,4 has four circles of four numbers, 1, 5, 9, 13 and 2, 6, 10, 14 among them: counted once however often they come round,
-- and nothing on two circles
circles :
    shared_of (run 4 1 4 1 0 30) (run 4 1 4 13 7 3) ∷ shared_of (run 4 1 4 1 0 30) (run 4 1 4 2 0 30)
    ∷ shared_of (run 4 1 4 1 2 4) (run 4 1 4 9 100 4) ∷ shared_of (run 4 1 0 9 0 5) (run 4 1 0 9 3 7)
    ∷ shared_of (run 4 1 0 9 0 5) (run 4 1 0 8 0 5) ∷ []
    ≡ 3 ∷ 0 ∷ 4 ∷ 1 ∷ 0 ∷ []
unfolding shared_of common_of count_of is_new occurs index_of least shows element step modulus
circles = refl

-- the prime-modulus model: 1, 16807, 282475249, 1622650073, ..
primes :
    shared_of (run 0 16807 0 1 0 3) (run 0 16807 0 16807 0 3) ∷ shared_of (run 0 16807 0 1 1 3) (run 0 16807 0 1622650073 0 3) ∷ []
    ≡ 2 ∷ 1 ∷ []
unfolding shared_of common_of count_of is_new occurs index_of least shows element step modulus
primes = refl

-- the first run's before the second's, 16 after both; each field that differs, an even multiplier; the seeds may differ
refusals :
    shared_refusal (stand 1 0 0) (run 65 5 3 1 0 1) ∷ shared_refusal (run 65 5 3 1 0 1) (stand 1 0 0) ∷ shared_refusal (stand 1 0 1) (stand 16 0 1)
    ∷ shared_refusal (stand 1 0 1) (run 5 5 3 1 0 0) ∷ shared_refusal (stand 1 0 1) (run 5 5 3 1 0 1) ∷ shared_refusal (stand 1 0 1) (run 4 7 3 1 0 1)
    ∷ shared_refusal (stand 1 0 1) (run 4 5 1 1 0 1) ∷ shared_refusal (run 4 2 3 1 0 1) (run 4 2 3 1 0 1) ∷ shared_refusal (stand 1 0 1) (stand 2 5 9) ∷ []
    ≡ 5 ∷ 3 ∷ 4 ∷ 5 ∷ 16 ∷ 16 ∷ 16 ∷ 16 ∷ 0 ∷ []
unfolding shared_refusal rule_refusal run_refusal refusal_of modulus
refusals = refl
