-- What each turn of the loops over a line's fields shows. Reading: whether the bytes are a line, and with which numbers, is
-- decided by what is left of them. Writing, and the length: what is written and the line of the numbers left are the line.
use mathlib.Core.Path.{◌≡◌, refl, sym, ap, ap₂, ◌∙◌, subst}
use mathlib.Core.Bool.{false}
use mathlib.Core.Logic.{by_cases}
use mathlib.Core.List.{List, [], ◌∷◌, ◌++◌, append_assoc, append-nil}
use Prim.Native.Nat.{ℕ, suc, ◌+◌, ◌*◌, ◌-◌, ◌^◌, ◌≤◌, ◌<◌, suc-le-suc}
use native.Mathlib.Decide.{ℕ_discrete}
use native.Mathlib.Numerals.{add-one}
use native.Mathlib.Omega.{arith}
use lib.Dec.{eqb}
use lib.ListN.{length, get_or, take, drop, set, length-append, length-drop, length-set, drop_of_length-le, take-append-drop}
use lib.Seq.{take_all, take-suc-set, take_at, drop_at, drop-drop, drop-cons, length-take-le}
use borrow.Author.Tests.{eq-eqb, ne_eqb}
use Rattle.std.specs.List.{sum_by}
use Rattle.std.proofs.lemmas.List.Sums.{sum_by-cons}
use Rattle.decimals.specs.Digits.{digits_of}
use Rattle.decimals.specs.Field.{FieldFound, NoField, Written}
use Rattle.fields.specs.Line.{delimiter_before, fields_line, numbers_from, is_line}
use Rattle.fields.specs.Codec.{LineRead, FrontWritten}
use Rattle.decimals.proofs.Digits.{digits_length}
use Rattle.fields.proofs.Numbers.{line_field, line_no_field, line_none, line_some}

-- Reading.

-- of the bytes the first k numbers have been read, up to `at`
pub record ReadSoFar (bytes before numbers : List ℕ) (at k : ℕ) : Type 0 where
  pub some : k ≤ length before
  pub within : at ≤ length bytes
  pub size : length numbers ≡ length before
  pub left : is_line (length before) bytes ≡ is_line (length before - k) (drop at bytes)
  pub guess : numbers_from 0 bytes ≡ take k numbers ++ numbers_from 0 (drop at bytes)

pub read_start : (bytes before : List ℕ) → ReadSoFar bytes before before 0 0
read_start bytes before =
    let all : length before ≡ length before - 0 = omega arith in
    record {
      some = omega arith;
      within = omega arith;
      size = refl;
      left = ap (λ (j : ℕ). is_line j bytes) all;
      guess = refl;
    }

module _ {bytes before numbers : List ℕ} {at k delimiter : ℕ} (s : ReadSoFar bytes before numbers at k) (l : k < length before)
    (m : delimiter ≡ delimiter_before (length before - k - 1)) where
  -- the fields left
  others : length before - k ≡ suc (length before - k - 1)
  others = omega arith

  -- one more field, or none where one should be
  pub read_next : {v next : ℕ} → FieldFound (drop at bytes) bytes delimiter v next → ReadSoFar bytes before (set numbers k v) next (k + 1)
  read_next {v} {next} f =
      let step = line_field (length before - k - 1) v (drop next bytes) f.small (rw m at f.reads) in
      record {
        some = omega arith;
        within = f.within;
        size = length-set numbers k v ∙ s.size;
        left =
            let e : length before - k - 1 ≡ length before - (k + 1) = omega arith in
            s.left ∙ ap (λ (j : ℕ). is_line j (drop at bytes)) others ∙ step.0 ∙ ap (λ (j : ℕ). is_line j (drop next bytes)) e;
        guess =
            s.guess
            ∙ ap (λ (ws : List ℕ). take k numbers ++ ws) step.1
            ∙ sym (append_assoc (take k numbers) (v ∷ []) (numbers_from 0 (drop next bytes)))
            ∙ ap (λ (ws : List ℕ). ws ++ numbers_from 0 (drop next bytes))
            (sym (ap (λ (j : ℕ). take j (set numbers k v)) (add-one k) ∙ take-suc-set numbers k v (omega (arith, s.size))));
      }

  pub read_none : {after : List ℕ} → NoField (drop at bytes) delimiter → LineRead bytes before after false
  read_none none =
      record {
        is_line_lem =
            sym
            (s.left ∙ ap (λ (j : ℕ). is_line j (drop at bytes)) others
            ∙ line_no_field (length before - k - 1) (subst (NoField (drop at bytes)) m none));
        numbers = λ e. absurd (let z : ◌≡◌ {A = ℕ} 0 1 = cc in omega arith);
      }

-- all fields are read: the bytes end there, or not
pub read_end : {bytes before numbers : List ℕ} {at k : ℕ} → ReadSoFar bytes before numbers at k → length before ≤ k →
    LineRead bytes before numbers (eqb at (length bytes))
read_end {bytes} {before} {numbers} {at} {k} s l = by_cases (ℕ_discrete at (length bytes)) whole longer
  where
    left : is_line (length before) bytes ≡ is_line 0 (drop at bytes)
    left =
        let none : length before - k ≡ 0 = omega arith in
        s.left ∙ ap (λ (j : ℕ). is_line j (drop at bytes)) none

    whole : at ≡ length bytes → LineRead bytes before numbers (eqb at (length bytes))
    whole e =
        let end : drop at bytes ≡ [] = drop_of_length-le bytes {i = at} (omega arith) in
        rw (eq-eqb at (length bytes) e)
        (record {
          is_line_lem = sym (left ∙ ap (is_line 0) end ∙ line_none);
          numbers = λ t.
              sym
              (s.guess
              ∙ ap₂ (λ (ws : List ℕ) (bs : List ℕ). ws ++ numbers_from 0 bs) (take_all k numbers (omega (arith, s.size))) end
              ∙ unfold numbers_from in append-nil numbers);
        })

    longer : (at ≡ length bytes → ⊥) → LineRead bytes before numbers (eqb at (length bytes))
    longer d =
        rw (ne_eqb at (length bytes) d)
        (record {
          is_line_lem = sym (left ∙ line_some (drop at bytes) (simp length-drop (omega (arith, s.within))));
          numbers = λ t. absurd (let z : ◌≡◌ {A = ℕ} 0 1 = cc in omega arith);
        })

-- The fields that are left of a line, from the k-th on.
left_fields : (vs : List ℕ) (k : ℕ) → k < length vs →
    fields_line (drop k vs) ≡ digits_of (get_or vs k 0) ++ (delimiter_before (length vs - k - 1) ∷ fields_line (drop (k + 1) vs))
unfolding fields_line
left_fields vs k l =
    let e : length (drop (suc k) vs) ≡ length vs - k - 1 = simp length-drop (omega arith) in
    ap fields_line (drop-cons vs k 0 l) ∙ rw (add-one, ← e)

-- The length.
pub line_sum : (vs : List ℕ) → sum_by (λ v. length (digits_of v) + 1) vs ≡ length (fields_line vs)
unfolding fields_line
line_sum [] = refl
line_sum (v ∷ vs) =
    sum_by-cons (λ u. length (digits_of u) + 1) v vs ∙ simp length-append (omega (arith, line_sum vs))

-- a field has at most 21 bytes
pub line_bound : (vs : List ℕ) → ((i : ℕ) → i < length vs → get_or vs i 0 < 2 ^ 64) → length (fields_line vs) ≤ 21 * length vs
unfolding fields_line
line_bound [] below = omega arith
line_bound (v ∷ vs) below =
    let rest = line_bound vs (λ i l. below (suc i) (suc-le-suc l)) in
    let first = below 0 (omega arith) in
    simp length-append (omega (arith, digits_length v 19 (omega arith)))

-- Writing.

-- the buffer, as before it was written to but for the bytes up to `at`, which make the whole with what is left
pub record FrontSoFar (whole left before buf : List ℕ) (at : ℕ) : Type 0 where
  pub kept : length buf ≡ length before
  pub within : at ≤ length buf
  pub front : whole ≡ take at buf ++ left
  pub behind : drop at buf ≡ drop at before

pub front_start : (whole before : List ℕ) → FrontSoFar whole whole before before 0
front_start whole before = record { kept = refl; within = omega arith; front = refl; behind = refl }

-- what is left begins with a field
pub record FieldNext (left : List ℕ) (v delimiter : ℕ) (rest : List ℕ) : Type 0 where
  pub reads : left ≡ digits_of v ++ (delimiter ∷ rest)

module _ {whole left before buf rest : List ℕ} {at v delimiter : ℕ} (s : FrontSoFar whole left before buf at)
    (field : FieldNext left v delimiter rest) where
  -- there is room for it where the buffer has room for the whole
  pub front_room : length whole ≤ length before → at + length (digits_of v) + 1 ≤ length buf
  front_room fits =
      omega (
        arith,
        s.kept,
        length-take-le at buf s.within,
        simp length-append at (ap length (s.front ∙ ap (λ (bs : List ℕ). take at buf ++ bs) field.reads)),
      )

  pub front_next : {after : List ℕ} {next : ℕ} → Written buf after at v delimiter next → length after ≡ length buf →
      FrontSoFar whole rest before after next
  front_next {after} {next} w kept =
      record {
        kept = kept ∙ s.kept;
        within = omega (arith, kept, ap length bytes, length-append front (drop next buf), size);
        front =
            s.front
            ∙ ap (λ (bs : List ℕ). take at buf ++ bs) (field.reads ∙ sym (append_assoc (digits_of v) (delimiter ∷ []) rest))
            ∙ sym (append_assoc (take at buf) (digits_of v ++ (delimiter ∷ [])) rest)
            ∙ ap (λ (bs : List ℕ). bs ++ rest) (sym (ap (take next) bytes ∙ take_at front _ next size));
        behind = ap (drop next) bytes ∙ drop_at front _ next size ∙ later;
      }
    where
      front : List ℕ
      front = take at buf ++ (digits_of v ++ (delimiter ∷ []))

      size : length front ≡ next
      size = simp length-append (omega (arith, w.ends, length-take-le at buf s.within))

      bytes : after ≡ front ++ drop next buf
      bytes =
          w.bytes
          ∙ ap (λ (bs : List ℕ). take at buf ++ bs) (sym (append_assoc (digits_of v) (delimiter ∷ []) (drop next buf)))
          ∙ sym (append_assoc (take at buf) (digits_of v ++ (delimiter ∷ [])) (drop next buf))

      later : drop next buf ≡ drop next before
      later =
          let e : at + (length (digits_of v) + 1) ≡ next = omega (arith, w.ends) in
          ap (λ (j : ℕ). drop j buf) (sym e)
          ∙ sym (drop-drop (length (digits_of v) + 1) at buf)
          ∙ ap (drop (length (digits_of v) + 1)) s.behind
          ∙ drop-drop (length (digits_of v) + 1) at before
          ∙ ap (λ (j : ℕ). drop j before) e

-- nothing is left
pub front_end : {whole left before buf : List ℕ} {at : ℕ} → FrontSoFar whole left before buf at → left ≡ [] →
    FrontWritten whole before buf at
front_end {whole} {left} {before} {buf} {at} s none =
    record {
      whole =
          sym (take-append-drop at buf)
          ∙ ap₂ (λ (x y : List ℕ). x ++ y) front (s.behind ∙ ap (λ (j : ℕ). drop j before) size);
      count = size;
    }
  where
    front : take at buf ≡ whole
    front = sym (s.front ∙ ap (λ (bs : List ℕ). take at buf ++ bs) none ∙ append-nil (take at buf))

    size : at ≡ length whole
    size = sym (length-take-le at buf s.within) ∙ ap length front

-- of a line the k-th field is next, or nothing is left
pub next_field : (vs : List ℕ) (k : ℕ) {delimiter : ℕ} → k < length vs → delimiter ≡ delimiter_before (length vs - k - 1) →
    FieldNext (fields_line (drop k vs)) (get_or vs k 0) delimiter (fields_line (drop (k + 1) vs))
next_field vs k l m =
    record { reads = left_fields vs k l ∙ ap (λ (j : ℕ). digits_of (get_or vs k 0) ++ (j ∷ fields_line (drop (k + 1) vs))) (sym m) }

pub no_field_left : (vs : List ℕ) {k : ℕ} → length vs ≤ k → fields_line (drop k vs) ≡ []
unfolding fields_line
no_field_left vs l = ap fields_line (drop_of_length-le vs l)
