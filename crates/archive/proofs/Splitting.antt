-- Any bytes fall into lines: the first part, and the lines of what follows it. A line of a run has its byte 10 at its end
-- and nowhere else, so the lines of an archive are those of its runs.
use mathlib.Core.Path.{◌≡◌, refl, sym, ap, ap₂, ◌∙◌}
use mathlib.Core.Logic.{by_cases}
use mathlib.Core.List.{List, [], ◌∷◌, ◌++◌, append_assoc, map}
use mathlib.Core.List.Memᴰ
use Prim.Native.Nat.{ℕ, ◌+◌, ◌-◌, ◌≤◌, ◌<◌, min}
use mathlib.Core.Bool.{Bool, true, false, cond}
use lib.Dec.{ltb}
use Rattle.std.specs.Prelude.{position, Some, None, ◌==◌}
use Rattle.std.specs.List.{position_or_len}
use Rattle.std.proofs.lemmas.Option.{cond_some, none-some}
use native.Mathlib.Decide.{ℕ_discrete}
use native.Mathlib.Omega.{arith}
use lib.ListN.{length, take, drop, length-append, length-drop}
use lib.Seq.{drop-drop, take-append_seam, drop-append_seam}
use borrow.Author.Tests.{eq-eqb, ne_eqb, ltb-true, ltb-false}
use Rattle.decimals.specs.Digits.{digits_of}
use Rattle.fields.specs.Line.{fields_line}
use Rattle.decimals.proofs.Digits.{AllDigits, digits_bytes}
use Rattle.runs.specs.declared.Run.{Run}
use Rattle.lines.specs.Line.{line_of}
use Rattle.archive.specs.Archive.{prepend, lines_of, archive_of}
use Rattle.archive.specs.Parts.{first_part}

-- First parts.

-- a byte 10 ends the part, any other goes on
part_ends : {b : ℕ} (bytes : List ℕ) → b ≡ 10 → first_part (b ∷ bytes) ≡ b ∷ []
unfolding first_part
part_ends {b} bytes e = rw (eq-eqb b 10 e)

part_goes_on : {b : ℕ} (bytes : List ℕ) → (b ≡ 10 → ⊥) → first_part (b ∷ bytes) ≡ b ∷ first_part bytes
unfolding first_part
part_goes_on {b} bytes d = rw (ne_eqb b 10 d)

-- it ends behind the first byte 10, or with the bytes
part_size : (bytes : List ℕ) → length (first_part bytes) ≡ min (position_or_len (λ b. b == 10) bytes + 1) (length bytes)
unfolding first_part
part_size [] = omega arith
part_size (b ∷ bytes) = go (part_size bytes) (b == 10) refl
  where
    go : length (first_part bytes) ≡ min (position_or_len (λ b. b == 10) bytes + 1) (length bytes) → (t : Bool) → (b == 10) ≡ t → length (first_part (b ∷ bytes)) ≡ min (position_or_len (λ b. b == 10) (b ∷ bytes) + 1) (length (b ∷ bytes))
    go rest true e = rw e (omega arith)
    go rest false e = rw e (omega (arith, rest))

pub part_ends_at : (bytes : List ℕ) {i : ℕ} → position (λ b. b == 10) bytes ≡ Some i → length (first_part bytes) ≡ i + 1
part_ends_at bytes {i} e =
    let at = cond_some _ _ _ e in
    omega (arith, part_size bytes, ltb-true _ _ at.0, at.1)

pub part_open : (bytes : List ℕ) → position (λ b. b == 10) bytes ≡ None → length (first_part bytes) ≡ length bytes
part_open bytes e = go (ltb at (length bytes)) refl e
  where
    at : ℕ
    at = position_or_len (λ b. b == 10) bytes

    go : (t : Bool) → ltb at (length bytes) ≡ t → cond t (Some at) None ≡ None → length (first_part bytes) ≡ length bytes
    go true l e = absurd (none-some at (sym e))
    go false l e = omega (arith, part_size bytes, ltb-false _ _ l)

-- the part and what follows it are the bytes
part_split : (bytes : List ℕ) → bytes ≡ first_part bytes ++ drop (length (first_part bytes)) bytes
part_split [] = unfold first_part in refl
part_split (b ∷ bytes) =
    by_cases (ℕ_discrete b 10) (λ e. rw (part_ends bytes e) refl)
    (λ d. rw (part_goes_on bytes d) (ap (λ (l : List ℕ). b ∷ l) (part_split bytes)))

take_part : (bytes : List ℕ) → take (length (first_part bytes)) bytes ≡ first_part bytes
take_part bytes =
    ap (take (length (first_part bytes))) (part_split bytes) ∙ take-append_seam (first_part bytes) _

pub part_length : (bytes : List ℕ) → length (first_part bytes) ≤ length bytes
part_length bytes = omega (arith, simp length-append at (ap length (part_split bytes)))

-- some bytes have a first part of some bytes
part_some : (bytes : List ℕ) → 0 < length bytes → 0 < length (first_part bytes)
part_some [] h = absurd (omega arith)
part_some (b ∷ bytes) h = unfold first_part in omega arith

-- digits are passed over, and so is a comma
part_digits : (ds rest : List ℕ) → AllDigits ds → first_part (ds ++ rest) ≡ ds ++ first_part rest
part_digits [] rest all = refl
part_digits (d ∷ ds) rest all =
    part_goes_on (ds ++ rest) (λ e. omega (arith, all d (Memᴰ.head refl)))
    ∙ ap (λ (l : List ℕ). d ∷ l) (part_digits ds rest (λ b m. all b (Memᴰ.tail m)))

part_fields : (v : ℕ) (vs tail : List ℕ) → first_part (fields_line (v ∷ vs) ++ tail) ≡ fields_line (v ∷ vs)
unfolding fields_line
part_fields v [] tail =
    ap first_part (append_assoc (digits_of v) (10 ∷ []) tail)
    ∙ part_digits (digits_of v) (10 ∷ tail) (digits_bytes v)
    ∙ ap (λ (l : List ℕ). digits_of v ++ l) (part_ends tail refl)
part_fields v (w ∷ ws) tail =
    ap first_part (append_assoc (digits_of v) (44 ∷ fields_line (w ∷ ws)) tail)
    ∙ part_digits (digits_of v) (44 ∷ (fields_line (w ∷ ws) ++ tail)) (digits_bytes v)
    ∙ ap (λ (l : List ℕ). digits_of v ++ l)
    (part_goes_on (fields_line (w ∷ ws) ++ tail) (λ e. omega arith) ∙ ap (λ (l : List ℕ). 44 ∷ l) (part_fields w ws tail))

-- the first part of bytes that begin with a line is the line
pub part_line : (run : Run) (tail : List ℕ) → first_part (line_of run ++ tail) ≡ line_of run
part_line run tail = part_fields _ _ tail

-- a line has some bytes
line_some : (run : Run) → 0 < length (line_of run)
unfolding fields_line
line_some run = simp length-append (omega arith)

-- What the machine reads from `at` to `end` is the first part there.
module _ {at end : ℕ} (bytes : List ℕ) (l : at < length bytes) (e : end ≡ at + length (first_part (drop at bytes))) where
  pub part_read : take (end - at) (drop at bytes) ≡ first_part (drop at bytes)
  part_read =
      let n : end - at ≡ length (first_part (drop at bytes)) = omega arith in
      ap (λ (k : ℕ). take k (drop at bytes)) n ∙ take_part (drop at bytes)

  pub part_within : (at ≤ end) × (end ≤ length bytes)
  part_within = omega (arith, part_length (drop at bytes), length-drop at bytes)

  pub part_advances : at < end
  part_advances = omega (arith, part_some (drop at bytes) (simp length-drop (omega arith)))

-- Lines.

pub line_ends : {b : ℕ} (bytes : List ℕ) → b ≡ 10 → lines_of (b ∷ bytes) ≡ (b ∷ []) ∷ lines_of bytes
unfolding lines_of
line_ends {b} bytes e = rw (eq-eqb b 10 e, lines_of)

pub line_goes_on : {b : ℕ} (bytes : List ℕ) → (b ≡ 10 → ⊥) → lines_of (b ∷ bytes) ≡ prepend b (lines_of bytes)
unfolding lines_of
line_goes_on {b} bytes d = rw (ne_eqb b 10 d, lines_of)

-- the first part and the lines of what follows it
pub lines_first : (bytes : List ℕ) → 0 < length bytes → lines_of bytes ≡ first_part bytes ∷ lines_of (drop (length (first_part bytes)) bytes)
lines_first [] l = absurd (omega arith)
lines_first (b ∷ []) l =
    by_cases (ℕ_discrete b 10) (λ e. rw (part_ends [] e) (line_ends [] e))
    (λ d. rw (part_goes_on [] d) (line_goes_on [] d ∙ unfold lines_of first_part in refl))
lines_first (b ∷ c ∷ bytes) l =
    let rest = lines_first (c ∷ bytes) (omega arith) in
    by_cases (ℕ_discrete b 10) (λ e. rw (part_ends (c ∷ bytes) e) (line_ends (c ∷ bytes) e))
    (λ d. rw (part_goes_on (c ∷ bytes) d) (line_goes_on (c ∷ bytes) d ∙ ap (prepend b) rest))

-- the same for what the machine reads
pub lines_read : {at end : ℕ} (bytes : List ℕ) → at < length bytes → end ≡ at + length (first_part (drop at bytes)) →
    lines_of (drop at bytes) ≡ take (end - at) (drop at bytes) ∷ lines_of (drop end bytes)
lines_read {at} {end} bytes l e =
    lines_first (drop at bytes) (simp length-drop (omega arith))
    ∙ ap₂ (λ (line rest : List ℕ). line ∷ lines_of rest) (sym (part_read bytes l e))
    (drop-drop (length (first_part (drop at bytes))) at bytes ∙ ap (λ (k : ℕ). drop k bytes) (sym e))

-- one after the other the lines are the bytes
unfoldable pub joined : List (List ℕ) → List ℕ
joined [] = []
joined (line ∷ lines) = line ++ joined lines

joined_prepend : (b : ℕ) (lines : List (List ℕ)) → joined (prepend b lines) ≡ b ∷ joined lines
unfolding joined
joined_prepend b [] = refl
joined_prepend b (line ∷ lines) = refl

pub lines_joined : (bytes : List ℕ) → joined (lines_of bytes) ≡ bytes
unfolding joined lines_of
lines_joined [] = refl
lines_joined (b ∷ bytes) =
    let rest = lines_joined bytes in
    by_cases (ℕ_discrete b 10) (λ e. ap joined (line_ends bytes e) ∙ ap (λ (l : List ℕ). b ∷ l) rest)
    (λ d. ap joined (line_goes_on bytes d) ∙ joined_prepend b (lines_of bytes) ∙ ap (λ (l : List ℕ). b ∷ l) rest)

-- the lines of an archive
pub lines_archive : (runs : List Run) → lines_of (archive_of runs) ≡ map line_of runs
unfolding archive_of lines_of
lines_archive [] = refl
lines_archive (run ∷ runs) =
    let rest = lines_archive runs in
    let whole = line_of run ++ archive_of runs in
    let part = part_line run (archive_of runs) in
    lines_first whole (omega (arith, line_some run, length-append (line_of run) (archive_of runs)))
    ∙ ap₂ (λ (line : List ℕ) (lines : List (List ℕ)). line ∷ lines) part
    (ap (λ (line : List ℕ). lines_of (drop (length line) whole)) part ∙ ap lines_of (drop-append_seam (line_of run) (archive_of runs)) ∙ rest)
