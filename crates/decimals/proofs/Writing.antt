-- What each step of writing a field shows. The writer of the digits goes from the last one back and holds: with the digits
-- of what is left put in front of i, the buffer is as it is to be. A digit stored in front of i keeps that up.
use mathlib.Core.Path.{◌≡◌, refl, sym, ap, ◌∙◌}
use mathlib.Core.List.{List, [], ◌∷◌, ◌++◌, append_assoc}
use mathlib.Core.Logic.{by_cases}
use Prim.Native.Nat.{ℕ, suc, ◌+◌, ◌/◌, ◌%◌, ◌-◌, ◌≤◌, ◌<◌}
use native.Mathlib.Omega.{arith}
use native.Mathlib.Decide.{dec_lt}
use native.Mathlib.Numerals.{add-one}
use lib.ListN.{length, take, drop, set, length-append, length-set}
use lib.Seq.{take-set-le, set_split, drop_at, length-take-le}
use Rattle.decimals.specs.Digits.{digits_of}
use Rattle.decimals.specs.Field.{Written}
use Rattle.decimals.proofs.Digits.{digits_nonempty, digits_one, digits_last}

stored : (buf : List ℕ) (i b : ℕ) → i < length buf → drop i (set buf i b) ≡ b ∷ drop (i + 1) buf
stored buf i b h =
    rw (set_split buf i b h, add-one) (drop_at (take i buf) (b ∷ drop (suc i) buf) i (length-take-le i buf (omega arith)))

-- only the digits of rest, from at up to i, lack for the buffer to hold what it is to hold
pub record Lacks (whole buf : List ℕ) (at i rest : ℕ) : Type 0 where
  pub joined : take at buf ++ (digits_of rest ++ drop i buf) ≡ whole
  pub ends : i ≡ at + length (digits_of rest)
  pub within : i ≤ length buf

-- and where i has come down to at, none does
pub record LacksOrNot (whole buf : List ℕ) (at i rest : ℕ) : Type 0 where
  pub some : at < i → Lacks whole buf at i rest
  pub none : i ≤ at → buf ≡ whole

pub all_lack : (before : List ℕ) (at end v : ℕ) → end ≡ at + length (digits_of v) → end ≤ length before →
    LacksOrNot (take at before ++ (digits_of v ++ drop end before)) before at end v
all_lack before at end v ends within =
    record {
      some = λ l. record { joined = refl; ends = ends; within = within };
      none = λ l. absurd (omega (arith, digits_nonempty v));
    }

module _ {whole buf : List ℕ} {at i rest : ℕ} (lacks : Lacks whole buf at i rest) where
  more_written : 9 < rest → Lacks whole (set buf (i - 1) (48 + rest % 10)) at (i - 1) (rest / 10)
  more_written h =
      let last = digits_last rest h in
      let n = simp length-append at (ap length last) in
      let next : i - 1 + 1 ≡ i = omega arith in
      record {
        joined =
            rw (take-set-le at buf (i - 1) (48 + rest % 10) (omega arith), stored buf (i - 1) (48 + rest % 10) (omega arith), next)
            (ap (λ (l : List ℕ). take at buf ++ l)
            (sym (append_assoc (digits_of (rest / 10)) ((48 + rest % 10) ∷ []) (drop i buf))
            ∙ ap (λ (ds : List ℕ). ds ++ drop i buf) (sym last))
            ∙ lacks.joined);
        ends = omega arith;
        within = simp length-set (omega arith);
      }

  last_written : rest < 10 → set buf (i - 1) (48 + rest % 10) ≡ whole
  last_written h =
      let one = digits_one rest h in
      let n = ap length one in
      let here : i - 1 ≡ at = omega arith in
      let next : i ≡ suc at = omega arith in
      let digit : rest % 10 ≡ rest = omega arith in
      rw (here, digit, ← lacks.joined, one, next) (set_split buf at (48 + rest) (omega arith))

  pub digit_written : LacksOrNot whole (set buf (i - 1) (48 + rest % 10)) at (i - 1) (rest / 10)
  digit_written =
      by_cases (dec_lt rest 10)
      (λ one. let n = ap length (digits_one rest one) in
      record { some = λ l. absurd (omega arith); none = λ l. last_written one })
      (λ more. let next = more_written (omega arith) in
      record { some = λ l. next; none = λ l. absurd (omega (arith, digits_nonempty (rest / 10))) })

-- the delimiter is stored first, and then the digits in front of it
pub delimiter_written :
    (before after : List ℕ) (at end v delimiter : ℕ) → end ≡ at + length (digits_of v) → end < length before
    → after ≡ take at (set before end delimiter) ++ (digits_of v ++ drop end (set before end delimiter))
    → Written before after at v delimiter (end + 1)
delimiter_written before after at end v delimiter e h written =
    record {
      ends = omega arith;
      bytes = written ∙ rw (take-set-le at before end delimiter (omega arith), stored before end delimiter h);
    }
