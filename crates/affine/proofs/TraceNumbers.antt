-- The numbers of a row. What `round` ensures says what its maps do to every number, modulo 2 ^ 64; a map whose numbers are
-- below 2 ^ 64 is determined by that. So a row of such maps has just the numbers that `row_of` computes, the code's among them.
use Rattle.std.proofs.Common.{◌≡◌, ℕ, zero, suc, ◌*◌, ◌/◌, ◌%◌, ◌^◌, ◌<◌, sym, refl, ◌∙◌, mod-eq_of_lt, arith}
use Rattle.words.proofs.Congruence.{Congruent, same_regroup, same_add_cancel}
use Rattle.affine.specs.declared.Affine.{Affine}
use Rattle.affine.specs.declared.Progress.{Progress}
use Rattle.affine.specs.Affine.{Composes, apply}
use Rattle.affine.specs.Trace.{start_of, selected_of, OneRound, Row}
use Rattle.affine.proofs.Walking.{composed}

-- the numbers of two maps, one after the other
abbrev pub compose_of : Affine → Affine → Affine
compose_of first second =
    record { factor = second.factor * first.factor % 2 ^ 64; offset = apply second first.offset % 2 ^ 64 }

compose_composes : (first second : Affine) → Composes first second (compose_of first second)
compose_composes first second = composed first second (compose_of first second) refl refl

-- a map whose numbers are below 2 ^ 64; no other such map does the same
pub record Words (f : Affine) : Type 0 where
  pub factor_word : f.factor < 2 ^ 64
  pub offset_word : f.offset < 2 ^ 64

compose_only : {first second r : Affine} → Composes first second r → Words r → r ≡ compose_of first second
compose_only {first} {second} {r} h w = rw (factor_is, offset_is) refl
  where
    at : (x : ℕ) → Congruent (2 ^ 64) (apply r x) (apply second (apply first x))
    at x = record { same = h.composes x }

    offsets : Congruent (2 ^ 64) r.offset (apply second first.offset)
    offsets = same_regroup (at 0) (omega arith) (omega arith)

    factors : Congruent (2 ^ 64) r.factor (second.factor * first.factor)
    factors = same_add_cancel (same_regroup (at 1) (omega arith) (omega arith)) offsets

    offset_is : r.offset ≡ apply second first.offset % 2 ^ 64
    offset_is = sym (mod-eq_of_lt w.offset_word) ∙ offsets.same

    factor_is : r.factor ≡ second.factor * first.factor % 2 ^ 64
    factor_is = sym (mod-eq_of_lt w.factor_word) ∙ factors.same

-- a round in numbers
abbrev next_of : Progress → Progress
next_of p =
    record {
      stride = compose_of p.stride p.stride;
      done = compose_of p.done (selected_of p);
      left = p.left / 2;
    }

next_round : (p : Progress) → OneRound p (next_of p)
next_round p =
    record {
      stride = compose_composes p.stride p.stride;
      done = compose_composes p.done (selected_of p);
      left = refl;
    }

next_only : {p r : Progress} → OneRound p r → Words r.stride → Words r.done → r ≡ next_of p
next_only h s d = rw (compose_only h.stride s, compose_only h.done d, h.left) refl

-- the row for any a, c and i
unfoldable pub row_of : ℕ → ℕ → ℕ → ℕ → Progress
row_of a c i zero = start_of a c i
row_of a c i (suc k) = next_of (row_of a c i k)

pub row_is : (a c i : ℕ) → Row a c i (row_of a c i)
unfolding row_of
row_is a c i = record { starts = refl; next = λ k. next_round (row_of a c i k) }

pub row_only :
    {a c i : ℕ} {state : ℕ → Progress} →
    Row a c i state →
    ((k : ℕ) → Words (state k).stride × Words (state k).done) →
    (k : ℕ) → state k ≡ row_of a c i k
unfolding row_of
row_only row words zero = row.starts
row_only row words (suc k) =
    next_only (row.next k) (words (suc k)).0 (words (suc k)).1 ∙ rw (row_only row words k) refl
