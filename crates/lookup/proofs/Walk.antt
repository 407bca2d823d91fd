-- The lookup's loop is a walk over the runs with no state: the first run that shows the number is sought among those left.
use mathlib.Core.Path.{◌≡◌, refl, sym, ap, ◌∙◌}
use mathlib.Core.List.{List, [], ◌∷◌}
use Prim.Native.Nat.{ℕ, suc, ◌+◌, ◌≤◌, ◌<◌}
use native.Mathlib.Omega.{arith}
use borrow.Author.Tests.{lt-ltb, le-ltb}
use Rattle.runs.specs.declared.Run.{Run}
use Rattle.archive.specs.Archive.{runs_in}
use Rattle.archive.proofs.Walking.{RunsLeft, runs_left, runs_next}
use Rattle.lookup.specs.declared.LookupReply.{LookupReply}
use Rattle.lookup.specs.Lookup.{position_of, found_at, found_none, first_showing}

-- where the first run does not show y, and where it does
pub lookup_next : (k : ℕ) (run : Run) (runs : List Run) (y : ℕ) → run.count ≤ position_of run y →
    first_showing k (run ∷ runs) y ≡ first_showing (suc k) runs y
unfolding first_showing
lookup_next k run runs y l = rw (le-ltb (position_of run y) run.count l, first_showing)

pub lookup_here : (k : ℕ) (run : Run) (runs : List Run) (y : ℕ) → position_of run y < run.count →
    first_showing k (run ∷ runs) y ≡ found_at k (position_of run y)
unfolding first_showing
lookup_here k run runs y l = rw (lt-ltb (position_of run y) run.count l, first_showing)

abbrev pub showing : ℕ → ℕ → Unit {0} → List Run → LookupReply
showing y k s runs = first_showing k runs y

module _ (y : ℕ) {bytes rest : List ℕ} {k : ℕ} (w : RunsLeft (showing y) tt bytes rest k tt) where
  module _ {run : Run} {runs : List Run} {line : ℕ} (e : runs_in rest ≡ run ∷ runs) (n : line ≡ k) where
    pub look_next : {rest' : List ℕ} {k' : ℕ} → runs ≡ runs_in rest' → k' ≡ line + 1 → (position_of run y < run.count → ⊥) →
        RunsLeft (showing y) tt bytes rest' k' tt
    look_next r q h = runs_next w e n tt r q (lookup_next line run runs y (omega (arith, h)) ∙ ap (λ (j : ℕ). first_showing j runs y) (omega arith))

    pub look_found : {p : ℕ} → (position_of run y < run.count) × (p ≡ position_of run y) → found_at line p ≡ first_showing 1 (runs_in bytes) y
    look_found h = ap (found_at line) h.1 ∙ sym (runs_left w e n ∙ lookup_here line run runs y h.0)

  pub look_end : first_showing 1 (runs_in bytes) y ≡ first_showing k [] y → found_none ≡ first_showing 1 (runs_in bytes) y
  look_end e = sym (e ∙ unfold first_showing in refl)
