-- The plain player and the record, computed: document 01's second line, played, marked and returned to.
use mathlib.Core.Path.{◌≡◌, refl}
use mathlib.Core.List.{List, [], ◌∷◌, map}
use mathlib.Core.Option.{none, some}
use Prim.Native.Nat.{ℕ}
use Rattle.generator.specs.Recurrence.{modulus, step, element}
use Rattle.generator.specs.Check.{refusal_of}
use Rattle.refusals.specs.declared.ValueReply.{ValueReply}
use Rattle.runs.specs.declared.Run.{Run}
use Rattle.runs.specs.Run.{shows, run_refusal}
use Rattle.runs.proofs.Examples.{run}
use Rattle.player.specs.declared.Player.{Player}
use Rattle.player.specs.PlainPlayer.{Call, Open, Forward, Back, SetMark, Return, Show, opened, call_refusal}
use Rattle.player.specs.Player.{plain_player, unset, fields_after, told}
use Rattle.player.specs.Calls.{answers_to, last_player}

abbrev second : Run
second = run 10 371 995 73 100 8

-- a number that was shown
abbrev shown : ℕ → ValueReply
shown v = record { refusal = 0; value = v }

abbrev calls : List Call
calls = Show ∷ Forward 2 ∷ SetMark 3 ∷ Forward 5 ∷ Show ∷ Forward 1 ∷ Back 8 ∷ Return 3 ∷ Show ∷ Return 0 ∷ SetMark 4 ∷ Back 2 ∷ []

played : answers_to calls (opened second) ≡
    shown 49 ∷ told 0 ∷ told 0 ∷ told 0 ∷ shown 1002 ∷ told 12 ∷ told 12 ∷ told 0 ∷ shown 821 ∷ told 13 ∷ told 13 ∷ told 0 ∷ []
unfolding run_refusal refusal_of shows element step modulus
played = refl

last : last_player calls (opened second) ≡
    record { run = second; position = 0; marks = none ∷ none ∷ none ∷ some 2 ∷ [] }
unfolding run_refusal refusal_of modulus
last = refl

-- An odd record: mark 0 is set by a 7 and is off the run, mark 1 is unset beside a position.
abbrev odd : ℕ → Player
odd p =
    record {
      run = second;
      position = p;
      marks = record { set = 7; position = 8 } ∷ record { set = 0; position = 3 } ∷ unset ∷ record { set = 1; position = 5 } ∷ [];
    }

-- a mark off the run is met only when it is returned to; 12 of the position held comes before 13
met : map (λ (call : Call). call_refusal call (plain_player (odd 4)))
    (Show ∷ SetMark 0 ∷ Return 0 ∷ Return 1 ∷ Return 3 ∷ Return 4 ∷ Forward 3 ∷ Forward 4 ∷ Forward 18446744073709551615 ∷ Back 4 ∷ Back 5 ∷ [])
    ≡ 0 ∷ 0 ∷ 12 ∷ 13 ∷ 0 ∷ 13 ∷ 0 ∷ 12 ∷ 12 ∷ 0 ∷ 12 ∷ []
unfolding run_refusal refusal_of modulus
met = refl

first : map (λ (call : Call). call_refusal call (plain_player (odd 8)))
    (Show ∷ SetMark 4 ∷ Return 4 ∷ Back 1 ∷ Open second ∷ Open (run 4 5 3 1 0 0) ∷ []) ≡ 12 ∷ 12 ∷ 12 ∷ 12 ∷ 0 ∷ 5 ∷ []
unfolding run_refusal refusal_of modulus
first = refl

-- a declined open changes nothing, an accepted one leaves no mark; back and forth with an even multiplier
declined : fields_after (Open (run 65 5 3 1 0 9)) (odd 4) ≡ odd 4
unfolding run_refusal refusal_of modulus
declined = refl

anew : fields_after (Open second) (odd 9) ≡ record { run = second; position = 0; marks = unset ∷ unset ∷ unset ∷ unset ∷ [] }
unfolding run_refusal refusal_of modulus
anew = refl

even : answers_to (Forward 3 ∷ Show ∷ Back 2 ∷ Show ∷ []) (opened (run 6 6 1 3 0 9)) ≡ told 0 ∷ shown 51 ∷ told 0 ∷ shown 19 ∷ []
unfolding run_refusal refusal_of shows element step modulus
even = refl
