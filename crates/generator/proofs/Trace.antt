-- What the rounds of a jump do to the seed: after k of them the stride takes it to element 2 ^ k, and what is done to the
-- element at the index modulo 2 ^ k.
use mathlib.Core.Path.{◌≡◌, refl}
use Prim.Native.Nat.{ℕ, ◌%◌, ◌^◌}
use Rattle.affine.specs.declared.Progress.{Progress}
use Rattle.affine.specs.Affine.{apply}
use Rattle.affine.specs.Trace.{Row}
use Rattle.affine.proofs.Trace.{trace}
use Rattle.generator.specs.declared.Generator.{Generator}
use Rattle.generator.specs.Recurrence.{element}
use Rattle.generator.specs.Linear.{Linear}
use Rattle.generator.proofs.Walking.{element_walks}

module _ {g : Generator} {i : ℕ} {state : ℕ → Progress} (v : Linear g) (row : Row g.multiplier g.increment i state) where
  pub trace_stride : (k : ℕ) → apply (state k).stride g.seed % 2 ^ 64 % 2 ^ g.width ≡ element g (2 ^ k)
  trace_stride k = element_walks v (trace row k).stride refl

  pub trace_done : (k : ℕ) → apply (state k).done g.seed % 2 ^ 64 % 2 ^ g.width ≡ element g (i % 2 ^ k)
  trace_done k = element_walks v (trace row k).done refl
