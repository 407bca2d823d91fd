-- A walk over an archive's lines. What is computed of them, with the number of each and a state, is the same of the lines
-- left, from the number and the state that the walk has come to: so it starts, so it goes on by a line, and so it ends.
use mathlib.Core.Path.{◌≡◌, refl, sym, ap, ◌∙◌}
use mathlib.Core.List.{List, [], ◌∷◌}
use Prim.Native.Nat.{ℕ, suc, ◌+◌, ◌-◌, ◌≤◌, ◌<◌}
use native.Mathlib.Numerals.{add-one}
use native.Mathlib.Omega.{arith}
use lib.ListN.{length, take, drop, drop_of_length-le}
use Rattle.archive.specs.Archive.{lines_of}
use Rattle.archive.specs.Parts.{first_part}
use Rattle.archive.proofs.Splitting.{lines_read, part_advances}

-- f over all lines, from line 1 and the first state on, is f over those from `at` on, from line k and state s on
pub record Fold {S R : Type 0} (f : ℕ → S → List (List ℕ) → R) (first : S) (bytes : List ℕ) (at k : ℕ) (s : S) : Type 0 where
  pub left : f 1 first (lines_of bytes) ≡ f k s (lines_of (drop at bytes))
  pub few : k ≤ at + 1

module _ {S R : Type 0} {f : ℕ → S → List (List ℕ) → R} {first : S} {bytes : List ℕ} where
  pub fold_start : Fold f first bytes 0 1 first
  fold_start = record { left = refl; few = omega arith }

  module _ {at k : ℕ} {s : S} (w : Fold f first bytes at k s) where
    -- the line that is read next, and those behind it
    module _ {end : ℕ} (l : at < length bytes) (e : end ≡ at + length (first_part (drop at bytes))) where
      pub fold_line : f 1 first (lines_of bytes) ≡ f k s (take (end - at) (drop at bytes) ∷ lines_of (drop end bytes))
      fold_line = w.left ∙ ap (f k s) (lines_read bytes l e)

      pub fold_next : (t : S) →
          ((lines : List (List ℕ)) → f k s (take (end - at) (drop at bytes) ∷ lines) ≡ f (suc k) t lines) →
          Fold f first bytes end (k + 1) t
      fold_next t step =
          record {
            left = fold_line ∙ step (lines_of (drop end bytes)) ∙ ap (λ (j : ℕ). f j t (lines_of (drop end bytes))) (sym (add-one k));
            few = omega (arith, w.few, part_advances bytes l e);
          }

    pub fold_end : length bytes ≤ at → f 1 first (lines_of bytes) ≡ f k s []
    fold_end l = w.left ∙ ap (λ (bs : List ℕ). f k s (lines_of bs)) (drop_of_length-le bytes l) ∙ unfold lines_of in refl
