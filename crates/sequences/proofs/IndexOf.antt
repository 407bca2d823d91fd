-- The definition of the index finds what it means: the least index of y, if it lies below the bound; the bound, if y has
-- none. Either way demand 3 holds. And `occurs` tells whether y is one of the first elements.
use mathlib.Core.Path.{◌≡◌, refl}
use mathlib.Core.Logic.{inl, inr}
use mathlib.Core.Bool.{true, false}
use Prim.Native.Nat.{ℕ, ◌<◌}
use native.Mathlib.Nat.{le_refl, le_of_lt}
use native.Mathlib.Omega.{arith}
use lib.Dec.{eqb}
use borrow.Author.Tests.{eq-eqb, ne_eqb, eqb-false, lt-ltb, le-ltb}
use Rattle.sequences.specs.Index.{index_of, LeastIndex, Located, Absent, occurs}
use Rattle.sequences.proofs.Least.{least_least, least_below, least_unique}

module _ {x : ℕ → ℕ} {y bound k : ℕ} (h : Located x y bound k) where
  pub located_is : index_of x bound y ≡ k
  unfolding index_of
  located_is =
      least_unique
      (record {
        within = le_of_lt h.below;
        holds = λ l. eq-eqb (x k) y h.yields;
        first = λ j l. ne_eqb (x j) y (λ e. omega (arith, h.first j e));
      })

  pub located_least : LeastIndex x y 1 k
  located_least =
      record {
        answer = inl refl;
        yields = λ f. h.yields;
        others_higher = λ f i e d. omega (arith, h.first i e);
        never = (λ f. absurd (omega arith), λ none. absurd (none k h.yields));
      }

-- where no index below the bound yields y, the definition gives the bound
pub none_bound : (x : ℕ → ℕ) (y bound : ℕ) → ((i : ℕ) → i < bound → x i ≡ y → ⊥) → index_of x bound y ≡ bound
unfolding index_of
none_bound x y bound h =
    least_unique
    (record {
      within = le_refl bound;
      holds = λ l. absurd (omega arith);
      first = λ j l. ne_eqb (x j) y (h j l);
    })

-- and where it gives the bound, no index below it yields y
pub bound_none : (x : ℕ → ℕ) (y bound : ℕ) → index_of x bound y ≡ bound → (i : ℕ) → i < bound → x i ≡ y → ⊥
unfolding index_of
bound_none x y bound e i l =
    eqb-false (x i) y ((least_least (λ j. eqb (x j) y) bound).first i (omega arith))

-- whether y is one of the first n elements
pub occurs_at : (x : ℕ → ℕ) {y n : ℕ} (k : ℕ) → k < n → x k ≡ y → occurs x n y ≡ true
unfolding occurs index_of
occurs_at x {y} {n} k l e =
    lt-ltb _ n (omega (arith, least_below (least_least (λ i. eqb (x i) y) n) k (eq-eqb (x k) y e)))

pub occurs_nowhere : (x : ℕ → ℕ) (y n : ℕ) → ((i : ℕ) → i < n → x i ≡ y → ⊥) → occurs x n y ≡ false
unfolding occurs
occurs_nowhere x y n h = rw (none_bound x y n h) (le-ltb n n (le_refl n))

module _ {x : ℕ → ℕ} {y : ℕ} (h : Absent x y) where
  pub absent_is : (bound : ℕ) → index_of x bound y ≡ bound
  absent_is bound = none_bound x y bound (λ i l. h.none i)

  pub absent_least : LeastIndex x y 0 0
  absent_least =
      record {
        answer = inr refl;
        yields = λ f. absurd (omega arith);
        others_higher = λ f. absurd (omega arith);
        never = (λ f. h.none, λ none. refl);
      }
