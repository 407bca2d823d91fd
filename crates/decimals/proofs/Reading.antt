-- What each step of reading a field shows. The reader holds `bytes ≡ digits_of v ++ drop i s`: the field's bytes are the
-- digits of v, read so far, and what stands at i. A digit more keeps that up, and the delimiter ends it with a number. Anything
-- else at i shows that no number has these bytes, since the digits in front of a delimiter determine it.
use mathlib.Core.Path.{◌≡◌, refl, sym, ap, ◌∙◌, subst}
use mathlib.Core.List.{List, [], ◌∷◌, ◌++◌, Memᴰ}
use mathlib.Core.Logic.{by_cases}
use Prim.Native.Nat.{ℕ, zero, suc, ◌+◌, ◌*◌, ◌^◌, ◌-◌, ◌≤◌, ◌<◌, suc-le-suc}
use native.Mathlib.Nat.{add-zero}
use native.Mathlib.Omega.{arith}
use native.Mathlib.Decide.{dec_lt}
use native.Mathlib.Numerals.{add-one}
use lib.ListN.{length, get_or, take, drop, length-drop}
use lib.Seq.{take_all, drop-cons, drop-drop, get_or-drop}
use Rattle.decimals.specs.Digits.{digits_of}
use Rattle.decimals.specs.Field.{FieldFound, NoField}
use Rattle.decimals.proofs.Digits.{
  Stops,
  digit_first,
  digit_next,
  digits_bytes,
  digits_leading,
  digits_zero,
  digits_unique,
  digits_prefix,
}

-- What stands at an index of the bytes.

stops_at : (s : List ℕ) (i : ℕ) → (i < length s → 48 ≤ get_or s i 0 → 57 < get_or s i 0) → Stops (drop i s)
stops_at [] zero h = tt
stops_at [] (suc i) h = tt
stops_at (b ∷ s) zero h = h (omega arith)
stops_at (b ∷ s) (suc i) h = stops_at s i (λ p. h (suc-le-suc p))

byte_at : (s : List ℕ) (i b : ℕ) → i < length s → get_or s i 0 ≡ b → drop i s ≡ b ∷ drop (i + 1) s
byte_at s i b h e = rw (add-one, ← e) (drop-cons s i 0 h)

first_byte : (s : List ℕ) (i b : ℕ) (rest : List ℕ) → drop i s ≡ b ∷ rest → get_or s i 0 ≡ b
first_byte s i b rest e =
    sym (get_or-drop i s 0 0 ∙ ap (λ (k : ℕ). get_or s k 0) (add-zero i)) ∙ ap (λ (l : List ℕ). get_or l 0 0) e

-- The first digit.

pub first_digit : (s : List ℕ) (at d : ℕ) → at < length s → get_or s at 0 ≡ 48 + d → d < 10 → drop at s ≡ digits_of d ++ drop (at + 1) s
first_digit s at d h e below = byte_at s at (48 + d) h e ∙ digit_first d (48 + d) (drop (at + 1) s) below refl

pub no_digit : (s : List ℕ) (at delimiter : ℕ) → (at < length s → 48 ≤ get_or s at 0 → 57 < get_or s at 0) → NoField (drop at s) delimiter
no_digit s at delimiter other =
    record {
      none = λ v rest small e.
          let l = digits_leading v in
          let d = digits_bytes v l.first (subst (Memᴰ l.first) (sym l.split) (Memᴰ.head refl)) in
          let begins = e ∙ ap (λ (ds : List ℕ). ds ++ (delimiter ∷ rest)) l.split in
          let h : 57 < l.first = subst Stops begins (stops_at s at other) d.0 in
          omega arith;
    }

-- The digits and the delimiter behind them.

-- the bytes from `from` on, as a slice
abbrev pub from_on : List ℕ → ℕ → List ℕ
from_on s from = take (length s - from) (drop from s)

from_on_all : (s : List ℕ) (from : ℕ) → from_on s from ≡ drop from s
from_on_all s from = take_all (length s - from) (drop from s) (omega (arith, length-drop from s))

pub field_behind : {bytes s : List ℕ} {delimiter v n next : ℕ} (from : ℕ) → from ≤ length s → next ≡ from + n →
    FieldFound bytes (from_on s from) delimiter v n → FieldFound bytes s delimiter v next
field_behind {bytes} {s} {delimiter} {v} {n} from h e found =
    record {
      small = found.small;
      reads = rw (e, ← drop-drop n from s, ← from_on_all s from) found.reads;
      within = omega (arith, found.within, ap length (from_on_all s from), length-drop from s);
    }

-- up to i, the digits of v have been read of the field's bytes
pub record ReadUpTo (bytes s : List ℕ) (v i : ℕ) : Type 0 where
  pub read : bytes ≡ digits_of v ++ drop i s
  pub small : v < 2 ^ 64

pub read_first : (s : List ℕ) (from first : ℕ) → first < 2 ^ 64 → ReadUpTo (digits_of first ++ drop from s) (from_on s from) first 0
read_first s from first small =
    record { read = ap (λ (rest : List ℕ). digits_of first ++ rest) (sym (from_on_all s from)); small = small }

module _ {bytes s : List ℕ} {v i : ℕ} (so_far : ReadUpTo bytes s v i) where
  -- the delimiter stands at i
  pub number_read : (delimiter : ℕ) → i < length s → get_or s i 0 ≡ delimiter → FieldFound bytes s delimiter v (i + 1)
  number_read delimiter h e =
      record {
        small = so_far.small;
        reads = so_far.read ∙ ap (λ (rest : List ℕ). digits_of v ++ rest) (byte_at s i delimiter h e);
        within = omega arith;
      }

  -- the bytes end at i, or neither a digit nor the delimiter stands there
  pub no_delimiter :
      (delimiter : ℕ) → delimiter < 48
      → (i < length s → (48 ≤ get_or s i 0 → 57 < get_or s i 0) × (get_or s i 0 ≡ delimiter → ⊥))
      → NoField bytes delimiter
  no_delimiter delimiter m other =
      record {
        none = λ w rest small e.
            let stops : Stops (drop i s) = stops_at s i (λ p. (other p).0) in
            let same = (digits_unique stops (λ p. omega arith) (sym so_far.read ∙ e)).1 in
            let p : i < length s = omega (arith, ap length same, length-drop i s) in
            (other p).1 (first_byte s i delimiter rest same);
      }

  -- the digit d stands at i
  module _ (d : ℕ) (h : i < length s) (e : get_or s i 0 ≡ 48 + d) (below : d < 10) where
    longer : 0 < v → bytes ≡ digits_of (v * 10 + d) ++ drop (i + 1) s
    longer p =
        so_far.read
        ∙ ap (λ (rest : List ℕ). digits_of v ++ rest) (byte_at s i (48 + d) h e)
        ∙ digit_next v d (48 + d) (drop (i + 1) s) p below refl

    pub digit_read : (w : ℕ) → 0 < v → w ≡ v * 10 + d → w < 2 ^ 64 → ReadUpTo bytes s w (i + 1)
    digit_read w p q small = record { read = rw q (longer p); small = small }

    -- v is a leading zero, or the number is too large
    pub no_number : (delimiter : ℕ) → delimiter < 48 → (0 < v → 2 ^ 64 ≤ v * 10 + d) → NoField bytes delimiter
    no_number delimiter m large =
        record {
          none = λ w rest small f.
              by_cases (dec_lt 0 v)
              (λ p.
              let q = digits_prefix (v * 10 + d) w (drop (i + 1) s) (delimiter ∷ rest) (λ k. omega arith) (sym (longer p) ∙ f) in
              omega (arith, large p))
              (λ p.
              let z : v ≡ 0 = omega arith in
              let same = digits_zero w (drop i s) (delimiter ∷ rest) (rw z at (sym so_far.read ∙ f)) in
              omega (arith, first_byte s i delimiter rest same));
        }
