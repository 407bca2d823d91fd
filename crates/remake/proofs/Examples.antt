-- Remaking, computed.
use mathlib.Core.Path.{◌≡◌, refl}
use mathlib.Core.List.{[], ◌∷◌, map}
use Prim.Native.Nat.{ℕ}
use Rattle.generator.specs.Recurrence.{modulus, step, element}
use Rattle.generator.specs.Check.{refusal_of}
use Rattle.runs.specs.Run.{shows, run_refusal}
use Rattle.remake.specs.Remake.{shown_from, remade_count, buffer_after_remake}
use Rattle.runs.proofs.Examples.{run}

-- document 01's second line, whole, and the two before its end: what stood behind them is kept
whole : shown_from (run 10 371 995 73 100 8) 0 8 ≡ 49 ∷ 742 ∷ 821 ∷ 434 ∷ 217 ∷ 606 ∷ 541 ∷ 1002 ∷ []
unfolding shown_from shows element step modulus
whole = refl

at_the_end :
    buffer_after_remake 0 (run 10 371 995 73 100 8) 6 (1 ∷ 2 ∷ 3 ∷ 4 ∷ []) ≡ 541 ∷ 1002 ∷ 3 ∷ 4 ∷ []
unfolding shown_from shows element step modulus
at_the_end = refl

-- how many: at positions 0, 6, 7, at the count and far behind it, with room for 3; then with room for none and for one
counts :
    map (λ (p : ℕ). remade_count (run 10 371 995 73 100 8) p 3) (0 ∷ 6 ∷ 7 ∷ 8 ∷ 18446744073709551615 ∷ [])
    ≡ 3 ∷ 2 ∷ 1 ∷ 0 ∷ 0 ∷ []
counts = refl

rooms : map (remade_count (run 10 371 995 73 100 8) 0) (0 ∷ 1 ∷ 8 ∷ 9 ∷ []) ≡ 0 ∷ 1 ∷ 8 ∷ 8 ∷ []
rooms = refl

-- no room, room for one, and a position behind the run
none : buffer_after_remake 0 (run 10 371 995 73 100 8) 0 [] ≡ []
unfolding shown_from
none = refl

one : buffer_after_remake 0 (run 10 371 995 73 100 8) 1 (5 ∷ []) ≡ 742 ∷ []
unfolding shown_from shows element step modulus
one = refl

behind : buffer_after_remake 0 (run 10 371 995 73 100 8) 8 (5 ∷ 6 ∷ []) ≡ 5 ∷ 6 ∷ []
unfolding shown_from
behind = refl

-- an even multiplier, which ends in one number
even : buffer_after_remake 0 (run 6 6 1 3 0 9) 0 (0 ∷ 0 ∷ 0 ∷ 0 ∷ 0 ∷ []) ≡ 3 ∷ 19 ∷ 51 ∷ 51 ∷ 51 ∷ []
unfolding shown_from shows element step modulus
even = refl

-- runs that are refused keep the buffer
refused :
    map (λ (n : ℕ). buffer_after_remake (run_refusal (run 4 5 3 1 18446744073709551614 n)) (run 4 5 3 1 18446744073709551614 n) 0 (7 ∷ 8 ∷ []))
    (0 ∷ 2 ∷ [])
    ≡ (7 ∷ 8 ∷ []) ∷ (7 ∷ 8 ∷ []) ∷ []
unfolding run_refusal refusal_of modulus
refused = refl
