-- Conditions one after the other: where nothing is refused, none of them holds.
use mathlib.Core.Path.{◌≡◌, refl}
use mathlib.Core.Bool.{Bool, true, false, cond, ◌||◌, true≢false}
use Prim.Native.Nat.{ℕ, zero, suc}
use native.Mathlib.Omega.{arith}
use Rattle.refusals.specs.Refusals.{or_else}

-- of a choice that gives 0, the refused case is not taken
pub cond_none : (b : Bool) (n m : ℕ) → cond b (suc n) m ≡ 0 → (b ≡ false) × (m ≡ 0)
cond_none true n m e = absurd (omega arith)
cond_none false n m e = (refl, e)

pub or_else_none : (n m : ℕ) → or_else n m ≡ 0 → (n ≡ 0) × (m ≡ 0)
or_else_none zero m e = (refl, e)
or_else_none (suc n) m e = absurd (omega arith)

pub or_false : (a b : Bool) → (a || b) ≡ false → (a ≡ false) × (b ≡ false)
or_false true b e = absurd (true≢false e)
or_false false b e = (refl, e)
