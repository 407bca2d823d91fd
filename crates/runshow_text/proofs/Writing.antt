-- What each step of writing numbers shows.
use mathlib.Core.Path.{◌≡◌, ap, ◌∙◌}
use mathlib.Core.List.{List, [], ◌∷◌, ◌++◌, append_assoc}
use Prim.Native.Nat.{ℕ, suc, ◌+◌, ◌*◌, ◌^◌, ◌≤◌, ◌<◌, suc-le-suc}
use native.Mathlib.Numerals.{add-one}
use native.Mathlib.Omega.{arith}
use lib.ListN.{length, get_or, drop, length-append, drop_of_length-le}
use lib.Seq.{drop-cons}
use Rattle.decimals.specs.Digits.{digits_of}
use Rattle.fields.specs.Line.{fields_line}
use Rattle.fields.proofs.Codec.{FieldNext}
use Rattle.decimals.proofs.Digits.{digits_length}
use Rattle.runshow_text.specs.Text.{numbers_lines}

one_line : (v : ℕ) (vs : List ℕ) → numbers_lines (v ∷ vs) ≡ digits_of v ++ (10 ∷ numbers_lines vs)
unfolding numbers_lines fields_line
one_line v vs = append_assoc (digits_of v) (10 ∷ []) (numbers_lines vs)

-- the k-th number is next, or nothing is left
pub next_number : (vs : List ℕ) (k : ℕ) → k < length vs →
    FieldNext (numbers_lines (drop k vs)) (get_or vs k 0) 10 (numbers_lines (drop (k + 1) vs))
next_number vs k l =
    record { reads = ap numbers_lines (drop-cons vs k 0 l) ∙ one_line (get_or vs k 0) (drop (suc k) vs) ∙ rw (add-one) }

pub no_number_left : (vs : List ℕ) {k : ℕ} → length vs ≤ k → numbers_lines (drop k vs) ≡ []
unfolding numbers_lines
no_number_left vs l = ap numbers_lines (drop_of_length-le vs l)

-- a number has at most 20 digits
pub numbers_short : (vs : List ℕ) → ((i : ℕ) → i < length vs → get_or vs i 0 < 2 ^ 64) → length (numbers_lines vs) ≤ 21 * length vs
numbers_short [] below = unfold numbers_lines in omega arith
numbers_short (v ∷ vs) below =
    let rest = numbers_short vs (λ i l. below (suc i) (suc-le-suc l)) in
    let first = below 0 (omega arith) in
    omega (arith, simp length-append at (ap length (one_line v vs)), digits_length v 19 (omega arith))
