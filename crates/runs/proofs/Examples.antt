-- Small examples of the definitions, computed.
use mathlib.Core.Path.{◌≡◌, refl}
use mathlib.Core.List.{[], ◌∷◌, map}
use Prim.Native.Nat.{ℕ}
use Rattle.generator.specs.Recurrence.{modulus, step, element}
use Rattle.generator.specs.Check.{refusal_of}
use Rattle.runs.specs.declared.Run.{Run}
use Rattle.runs.specs.Run.{shows, run_refusal}

abbrev pub run : ℕ → ℕ → ℕ → ℕ → ℕ → ℕ → Run
run n a c x s l =
    record { generator = record { width = n; multiplier = a; increment = c; seed = x }; first = s; count = l }

-- first + count of 2^64 - 1 is accepted, of 2^64 refused; a count of 0 is refused; 3 and 4 come first
refusals :
    map run_refusal
    (run 4 5 3 1 18446744073709551614 1
    ∷ run 4 5 3 1 18446744073709551614 2
    ∷ run 4 5 3 1 0 0
    ∷ run 65 99 3 1 0 0
    ∷ run 4 16 3 1 0 0
    ∷ [])
    ≡ 0 ∷ 5 ∷ 5 ∷ 3 ∷ 4 ∷ []
unfolding run_refusal refusal_of modulus
refusals = refl

shown : map (shows (run 10 371 995 73 100 8)) (0 ∷ 1 ∷ []) ≡ 49 ∷ 742 ∷ []
unfolding shows element step modulus
shown = refl
