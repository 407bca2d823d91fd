-- What an answer says, where a check accepts and where it refuses.
use mathlib.Core.Path.{◌≡◌, sym, ap, subst, ◌∙◌}
use mathlib.Core.Bool.{not}
use Prim.Native.Nat.{ℕ, suc, ◌-◌}
use native.Mathlib.Omega.{arith}
use lib.Dec.{T, eqb}
use Rattle.std.specs.Prelude.{Result, Ok, Err}
use Rattle.refusals.specs.declared.Refusal.{Refusal}
use Rattle.refusals.specs.declared.Refusal.TheVariants as refusal
use Rattle.refusals.specs.Refusals.{number_of, check_number, or_else}
use Rattle.refusals.specs.Replies.{value_reply, plain_value}

-- the number of a check that accepted, and of one that refused
pub number_accepted : {r : Result (Unit {0}) Refusal} {n : ℕ} → check_number r ≡ n → r ≡ Ok tt → n ≡ 0
number_accepted e f = sym e ∙ ap check_number f

pub number_refused : {r : Result (Unit {0}) Refusal} {x : Refusal} {n : ℕ} → check_number r ≡ n → r ≡ Err x → number_of x ≡ n
number_refused e f = sym (ap check_number f) ∙ e

-- a refusal's number is not 0
some_number : (x : Refusal) → T (not (eqb (number_of x) 0))
some_number refusal.ArchiveTooLong = tt
some_number refusal.MalformedLine = tt
some_number refusal.WidthOutOfRange = tt
some_number refusal.OperandOutOfRange = tt
some_number refusal.RunOutOfRange = tt
some_number refusal.ValueOutOfRange = tt
some_number refusal.NotInvertible = tt
some_number refusal.BufferTooShort = tt
some_number refusal.PlacesOutOfRange = tt
some_number refusal.TotalOverflow = tt
some_number refusal.DuplicateLine = tt
some_number refusal.PositionOutOfRange = tt
some_number refusal.BookmarkInvalid = tt
some_number refusal.Inexact = tt
some_number refusal.LanesOutOfRange = tt
some_number refusal.Incompatible = tt

pub number_nonzero : (x : Refusal) → number_of x ≡ 0 → ⊥
number_nonzero x e = subst (λ (n : ℕ). T (not (eqb n 0))) e (some_number x)

pub number_suc : (x : Refusal) → (k : ℕ) × (number_of x ≡ suc k)
number_suc x = (number_of x - 1, omega (arith, number_nonzero x))

-- what is checked after a refusal changes nothing
pub refused_else : (x : Refusal) {n : ℕ} (m : ℕ) → number_of x ≡ n → number_of x ≡ or_else n m
refused_else x m e = let k = number_suc x in rw (← e, k.1)

pub refused_first :
    {r : Result (Unit {0}) Refusal} {x : Refusal} {n : ℕ} (m : ℕ) → check_number r ≡ n → r ≡ Err x → check_number r ≡ or_else n m
refused_first {x = x} m e f = ap check_number f ∙ refused_else x m (number_refused e f)

-- a refused answer has zeros beside the refusal's number
pub value_refused : (x : Refusal) {n : ℕ} (v : ℕ) → number_of x ≡ n → plain_value (Err x) ≡ value_reply n v
value_refused x v e = let k = number_suc x in rw (← e, k.1)

pub value_given : {n u : ℕ} (v : ℕ) → n ≡ 0 → u ≡ v → plain_value (Ok u) ≡ value_reply n v
value_given v e f = rw (e, f)
