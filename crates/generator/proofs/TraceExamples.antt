-- The elements that a jump passes, computed.
use mathlib.Core.Path.{◌≡◌, refl}
use mathlib.Core.List.{[], ◌∷◌, map}
use Prim.Native.Nat.{◌%◌, ◌^◌}
use Rattle.generator.specs.Recurrence.{modulus, step, element}
use Rattle.affine.specs.Affine.{apply}
use Rattle.affine.proofs.TraceNumbers.{row_of}
use Rattle.affine.proofs.TraceExamples.{states}

-- what is done takes the seed to the element at 1000 modulo 2 ^ k: 73 at 0, 793 at 8, 601 at 40, ..
reached :
    map (λ p. apply p.done 73 % 2 ^ 10) states
    ≡ map (element (record { width = 10; multiplier = 371; increment = 995; seed = 73 }))
    (0 ∷ 0 ∷ 0 ∷ 0 ∷ 8 ∷ 8 ∷ 40 ∷ 104 ∷ 232 ∷ 488 ∷ 1000 ∷ [])
unfolding row_of element step modulus
reached = refl
