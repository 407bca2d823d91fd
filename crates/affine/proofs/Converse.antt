-- Every map of i steps is one that rounds from the start leave, since i rounds and one more leave no index: so `Performed` from
-- the start says of a map no more than `Walks` does, and no contract on a map alone could tell in which order it was made.
use Rattle.std.proofs.Common.{◌≡◌, ℕ, zero, suc, ◌/◌, ◌^◌, ◌<◌, sym, refl, ◌∙◌, mod-eq_of_lt, arith}
use native.Mathlib.Nat.{div-eq_of_lt}
use Rattle.affine.specs.declared.Affine.{Affine}
use Rattle.affine.specs.declared.Progress.{Progress}
use Rattle.affine.specs.Affine.{Walks}
use Rattle.affine.specs.Trace.{start_of, OneRound, Performed, next, Traced}
use Rattle.affine.proofs.Walking.{walks_as}
use Rattle.affine.proofs.Trace.{row_rounded, trace}
use Rattle.affine.proofs.TraceNumbers.{row_of, row_is}

below : (i : ℕ) → i < 2 ^ i
below zero = omega arith
below (suc i) = omega (arith, below i)

module _ {a c i : ℕ} {r : Affine} (w : Walks a c i r) where
  abbrev at : Progress
  at = row_of a c i (suc i)

  traced : Traced a c i (suc i) at
  traced = trace (row_is a c i) (suc i)

  less : i < 2 ^ suc i
  less = omega (arith, below i)

  same : Walks a c i at.done
  same = walks_as (mod-eq_of_lt less) traced.done

  none_left : i / 2 ^ suc i ≡ 0
  none_left = div-eq_of_lt less

  one : OneRound (row_of a c i i) at
  one = (row_is a c i).next i

  pub walks_performed : Performed (start_of a c i) r
  walks_performed =
      record {
        rounds = suc i;
        last = record { stride = at.stride; done = r; left = at.left };
        rounded =
            next (row_rounded (row_is a c i) i)
            (record {
              stride = one.stride;
              done = record { composes = λ x. w.walks x ∙ sym (same.walks x) ∙ one.done.composes x };
              left = one.left;
            });
        over = traced.left ∙ none_left;
        result = refl;
      }
