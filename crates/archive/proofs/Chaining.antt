-- The chains of the lines before. Lines that are equal are those of one run, and fall into one slot; bytes that start with the
-- line of a run have it as their first line. So a line is among those before exactly if it stands in the chain of its slot,
-- and this holds again when it is added to that chain.
use mathlib.Core.Path.{◌≡◌, refl, sym, ap, ap₂, ◌∙◌}
use mathlib.Core.Logic.{by_cases}
use mathlib.Core.Bool.{Bool, true, false, ◌||◌}
use mathlib.Core.List.{List, [], ◌∷◌, ◌++◌}
use Prim.Native.Nat.{ℕ, ◌+◌, ◌*◌, ◌-◌, ◌≤◌, ◌<◌}
use native.Mathlib.Decide.{ℕ_discrete}
use native.Mathlib.Omega.{arith}
use lib.ListN.{length, get_or, take, drop, replicate, length-drop, length-set, take-append-drop}
use lib.Seq.{length-take-le}
use Rattle.fields.specs.Line.{same_bytes}
use Rattle.fields.proofs.Numbers.{same_test, fields_long}
use Rattle.chains.specs.Hash.{slot_of}
use Rattle.chains.specs.Chains.{stands, stands_among, Tables, Seen}
use Rattle.chains.proofs.Linking.{seen_tables, seen_own, seen_other, zeros_tables, zeros_none}
use Rattle.runs.specs.declared.Run.{Run}
use Rattle.lines.specs.Line.{numbers_of, line_of}
use Rattle.lines.proofs.Reading.{line_run}
use Rattle.archive.specs.Check.{is_among}
use Rattle.archive.specs.Parts.{first_part}
use Rattle.archive.specs.Chained.{Chained, SeenLine}
use Rattle.archive.proofs.Splitting.{part_line}
use Rattle.archive.proofs.Twins.{contrary, same_lines, other_lines}

-- a line has 12 bytes or more
pub line_long : (run : Run) → 12 ≤ length (line_of run)
line_long run = fields_long (numbers_of run)

-- where it ends
pub line_size : (bytes : List ℕ) {at end : ℕ} (run : Run) → at ≤ end → end ≤ length bytes →
    take (end - at) (drop at bytes) ≡ line_of run → at + length (line_of run) ≡ end
line_size bytes {at} {end} run l h e =
    let size = length-take-le (end - at) (drop at bytes) (simp length-drop (omega arith)) in
    omega (arith, size, ap length e)

-- bytes that start with the line of a run have it as their first line
line_starts : (bytes : List ℕ) (run : Run) → take (length (line_of run)) bytes ≡ line_of run → first_part bytes ≡ line_of run
line_starts bytes run e =
    let rest = drop (length (line_of run)) bytes in
    ap first_part (sym (take-append-drop (length (line_of run)) bytes) ∙ ap (λ (l : List ℕ). l ++ rest) e) ∙ part_line run rest

-- No line before.
pub zeros_chained : {bytes : List ℕ} (slots entries : ℕ) → (0 < slots) × (slots ≤ 65536) → length bytes ≤ 12 * entries →
    Chained bytes 0 (replicate slots 0) (replicate entries 0) []
unfolding is_among
zeros_chained {bytes} slots entries s r =
    record {
      tables = zeros_tables slots entries s r;
      law = λ run. sym (zeros_none bytes (replicate entries 0) (line_of run) slots _);
    }

-- One line more.
module _ {bytes : List ℕ} {at end slot : ℕ} {head next head' next' : List ℕ} {seen : Bool} (run : Run)
    (own : slot ≡ slot_of (numbers_of run) (length head)) (inside : slot < length head) (ahead : at ≤ end)
    (within : end ≤ length bytes) (read : take (end - at) (drop at bytes) ≡ line_of run)
    (told : Seen bytes at end slot head next head' next' seen) where
  abbrev line : List ℕ
  line = take (end - at) (drop at bytes)

  size : at + length (line_of run) ≡ end
  size = line_size bytes run ahead within read

  -- the line stands at `at` exactly if it is the one there
  stands_there : (other : Run) → same_bytes line (line_of other) ≡ stands bytes (line_of other) at
  stands_there other = go (same_bytes line (line_of other)) refl
    where
      first : first_part (drop at bytes) ≡ line
      first =
          let n : length (line_of run) ≡ end - at = omega (arith, size) in
          line_starts (drop at bytes) run (ap (λ (k : ℕ). take k (drop at bytes)) n ∙ read) ∙ sym read

      go : (b : Bool) → same_bytes line (line_of other) ≡ b → same_bytes line (line_of other) ≡ stands bytes (line_of other) at
      go true t =
          let e : line ≡ line_of other = same_test line (line_of other) t in
          let n : end - at ≡ length (line_of other) = omega (arith, size, ap length (sym read ∙ e)) in
          ap (λ (k : ℕ). same_bytes (take k (drop at bytes)) (line_of other)) n
      go false f =
          f ∙ sym
          (other_lines (λ e. contrary (same_lines (sym first ∙ line_starts (drop at bytes) other e)) f))

  module _ {before : List (List ℕ)} (c : Chained bytes at head next before) where
    tables : Tables bytes end head' next'
    tables = seen_tables c.tables told inside (omega (arith, size, line_long run)) within

    -- the lines of one slot, and of another
    same_slot : (other : Run) → slot_of (numbers_of other) (length head) ≡ slot →
        is_among (line_of other) (line ∷ before) ≡ stands_among bytes next' (line_of other) (get_or head' (slot_of (numbers_of other) (length head)) 0)
    unfolding is_among
    same_slot other e =
        ap₂ (λ (a b : Bool). a || b) (stands_there other)
        (c.law other ∙ ap (λ (s : ℕ). stands_among bytes next (line_of other) (get_or head s 0)) e)
        ∙ sym (seen_own c.tables told inside (omega (arith, size, line_long run)) within (line_of other))
        ∙ ap (λ (s : ℕ). stands_among bytes next' (line_of other) (get_or head' s 0)) (sym e)

    other_slot : (other : Run) → (slot_of (numbers_of other) (length head) ≡ slot → ⊥) →
        is_among (line_of other) (line ∷ before) ≡ stands_among bytes next' (line_of other) (get_or head' (slot_of (numbers_of other) (length head)) 0)
    unfolding is_among
    other_slot other d =
        let unlike : same_bytes line (line_of other) ≡ false =
        other_lines
        (λ e. d (ap (λ (r : Run). slot_of (numbers_of r) (length head)) (sym (line_run (sym read ∙ e))) ∙ sym own)) in
        ap (λ (b : Bool). b || is_among (line_of other) before) unlike
        ∙ c.law other
        ∙ sym (seen_other c.tables told inside (omega (arith, size, line_long run)) within (line_of other) d)

    added : Chained bytes end head' next' (line ∷ before)
    added =
        let slots : length head ≡ length head' = sym (ap length told.newest ∙ length-set head slot (at + 1)) in
        record {
          tables = tables;
          law = λ other.
              by_cases (ℕ_discrete (slot_of (numbers_of other) (length head)) slot) (same_slot other) (other_slot other)
              ∙ ap (λ (n : ℕ). stands_among bytes next' (line_of other) (get_or head' (slot_of (numbers_of other) n) 0)) slots;
        }

    among : seen ≡ is_among line before
    among =
        told.told
        ∙ ap₂ (λ (l : List ℕ) (s : ℕ). stands_among bytes next l (get_or head s 0)) read own
        ∙ sym (c.law run)
        ∙ ap (λ (l : List ℕ). is_among l before) (sym read)

  pub chained_next : SeenLine bytes at end head next head' next' seen
  chained_next = record { law = λ before c. (among c, added c) }
