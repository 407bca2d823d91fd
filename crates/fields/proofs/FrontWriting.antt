-- Writing to the front of a buffer: the buffer keeps its length, and what is written behind a word or a text makes one text
-- with it.
use mathlib.Core.Path.{◌≡◌, sym, ap, ap₂, ◌∙◌}
use mathlib.Core.List.{List, [], ◌++◌, append_assoc, append-nil}
use Prim.Native.Nat.{ℕ, ◌+◌, ◌-◌, ◌≤◌}
use native.Mathlib.Omega.{arith}
use native.Mathlib.Nat.{le_refl}
use lib.ListN.{length, take, drop, length-append, length-drop, drop_of_length-le}
use lib.Seq.{take_all, take-append_seam, drop-append_seam, drop-drop}
use Rattle.fields.specs.Codec.{FrontWritten}

pub front_within : {bytes before after : List ℕ} {n : ℕ} → FrontWritten bytes before after n → n ≤ length after
front_within w = omega (arith, simp length-append at (ap length w.whole))

-- the buffer is as long as before
pub front_kept : {bytes before after : List ℕ} {n : ℕ} → FrontWritten bytes before after n → length bytes ≤ length before →
    length after ≡ length before
front_kept {bytes} {before} w l =
    omega (arith, ap length w.whole, length-append bytes (drop (length bytes) before), length-drop (length bytes) before)

-- the line is written to the part of the buffer that follows the word
pub line_behind :
    {word line before between part : List ℕ} {n m : ℕ} → FrontWritten word before between n
    → FrontWritten line (take (length between - n) (drop n between)) part m
    → FrontWritten (word ++ line) before (take n between ++ (part ++ drop (length between - n) (drop n between))) (n + m)
line_behind {word} {line} {before} {between} {part} {n} {m} front back =
    record {
      whole =
          ap₂ (λ (x y : List ℕ). x ++ (part ++ y)) word_kept nothing_left
          ∙ ap (λ (l : List ℕ). word ++ l) (append-nil part ∙ behind)
          ∙ sym (append_assoc word line (drop (length (word ++ line)) before));
      count = simp length-append (omega arith);
    }
  where
    word_kept : take n between ≡ word
    word_kept = rw (front.count, front.whole) (take-append_seam word (drop (length word) before))

    rest_kept : drop n between ≡ drop (length word) before
    rest_kept = rw (front.count, front.whole) (drop-append_seam word (drop (length word) before))

    all : length (drop n between) ≤ length between - n
    all = rw length-drop (le_refl (length between - n))

    nothing_left : drop (length between - n) (drop n between) ≡ []
    nothing_left = drop_of_length-le (drop n between) all

    behind : part ≡ line ++ drop (length (word ++ line)) before
    behind =
        back.whole
        ∙ ap (λ (l : List ℕ). line ++ drop (length line) l) (take_all (length between - n) (drop n between) all ∙ rest_kept)
        ∙ ap (λ (l : List ℕ). line ++ l) (drop-drop (length line) (length word) before ∙ rw length-append)
