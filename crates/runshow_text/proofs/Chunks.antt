-- What remaking and writing a chunk shows, and that chunk after chunk the numbers of a part are written: positions one after the
-- other show what they show in pieces, and each number is a line of its own.
use Rattle.std.specs.Prelude.{Result, Ok, Err}
use mathlib.Core.Path.{◌≡◌, refl, sym, ap, ◌∙◌, subst}
use mathlib.Core.List.{List, [], ◌∷◌, ◌++◌, append_assoc}
use Prim.Native.Nat.{ℕ, zero, suc, ◌+◌, ◌-◌, ◌*◌, ◌^◌, ◌≤◌, ◌<◌, min}
use native.Mathlib.Omega.{arith}
use lib.ListN.{length, get_or, take, drop, length-append, length-drop, length-take}
use lib.Seq.{take-append-le, take-append_seam, get_or-take}
use Rattle.refusals.specs.declared.Refusal.{Refusal}
use Rattle.refusals.specs.declared.ValueReply.{ValueReply}
use Rattle.refusals.specs.Replies.{plain_value, value_reply}
use Rattle.refusals.proofs.Replies.{number_suc}
use Rattle.fields.specs.Line.{fields_line}
use Rattle.fields.specs.Codec.{FrontWritten}
use Rattle.runs.specs.declared.Run.{Run}
use Rattle.runs.specs.Run.{shows, run_refusal}
use Rattle.remake.specs.Remake.{shown_from, remade_count, RemakePromise}
use Rattle.runs.proofs.Runs.{valid_run}
use Rattle.runshow_text.specs.Text.{numbers_lines, text_from, due_of, part_due, ChunkPromise}
use Rattle.runshow_text.proofs.Writing.{numbers_short}

-- What positions show.
shown_length : (run : Run) (p n : ℕ) → length (shown_from run p n) ≡ n
unfolding shown_from
shown_length run p zero = refl
shown_length run p (suc n) = ap suc (shown_length run (suc p) n)

shown_take : (run : Run) (p m n : ℕ) → m ≤ n → take m (shown_from run p n) ≡ shown_from run p m
unfolding shown_from
shown_take run p zero n l = refl
shown_take run p (suc m) zero l = absurd (omega arith)
shown_take run p (suc m) (suc n) l =
    ap (λ (vs : List ℕ). shows run p ∷ vs) (shown_take run (suc p) m n (omega arith))

-- neighbouring positions
shown_join : (run : Run) (p m n : ℕ) → shown_from run p (m + n) ≡ shown_from run p m ++ shown_from run (p + m) n
unfolding shown_from
shown_join run p zero n =
    let none : 0 + n ≡ n = omega arith in
    let same : p ≡ p + 0 = omega arith in
    ap (shown_from run p) none ∙ ap (λ (q : ℕ). shown_from run q n) same
shown_join run p (suc m) n =
    let one : suc m + n ≡ suc (m + n) = omega arith in
    let same : suc p + m ≡ p + suc m = omega arith in
    ap (shown_from run p) one
    ∙ ap (λ (vs : List ℕ). shows run p ∷ vs)
    (shown_join run (suc p) m n ∙ ap (λ (q : ℕ). shown_from run (suc p) m ++ shown_from run q n) same)

lines_join : (vs ws : List ℕ) → numbers_lines (vs ++ ws) ≡ numbers_lines vs ++ numbers_lines ws
unfolding numbers_lines
lines_join [] ws = refl
lines_join (v ∷ vs) ws =
    ap (λ (bytes : List ℕ). fields_line (v ∷ []) ++ bytes) (lines_join vs ws)
    ∙ sym (append_assoc (fields_line (v ∷ [])) (numbers_lines vs) (numbers_lines ws))

text_join : (run : Run) (p m n : ℕ) → text_from run p (m + n) ≡ text_from run p m ++ text_from run (p + m) n
text_join run p m n = ap numbers_lines (shown_join run p m n) ∙ lines_join (shown_from run p m) (shown_from run (p + m) n)

-- the chunk's bytes are the front of the buffer
joined_front : (run : Run) (first shown made : ℕ) {bytes : ℕ} {before after : List ℕ} →
    FrontWritten (text_from run (first + shown) made) before after bytes →
    text_from run first shown ++ take bytes after ≡ text_from run first (shown + made)
joined_front run first shown made w =
    ap (λ (text : List ℕ). text_from run first shown ++ text)
    (rw (w.count, w.whole) (take-append_seam (text_from run (first + shown) made) _))
    ∙ sym (text_join run first shown made)

nothing_written : (run : Run) (p : ℕ) (buf : List ℕ) → FrontWritten (text_from run p 0) buf buf 0
unfolding shown_from numbers_lines
nothing_written run p buf = record { whole = refl; count = refl }

-- the refusal of a reply
refusal_is : (n v : ℕ) {reply : ValueReply} → reply ≡ value_reply n v → reply.refusal ≡ n
refusal_is zero v e = ap (λ (r : ValueReply). r.refusal) e
refusal_is (suc n) v e = ap (λ (r : ValueReply). r.refusal) e

-- as many as there is room for, as the run has and as are left of those asked for
least_assoc : (x y z : ℕ) → min (min x y) z ≡ min x (min y z)
least_assoc x y z = omega arith

least_less : (x y s : ℕ) → min (y - s) (x - s) ≡ min x y - s
least_less x y s = omega arith

due_left : (room count first many shown : ℕ) →
    min (min room (count - (first + shown))) (many - shown) ≡ min room (min many (count - first) - shown)
due_left room count first many shown =
    let behind : count - (first + shown) ≡ count - first - shown = omega arith in
    ap (λ (k : ℕ). min (min room k) (many - shown)) behind
    ∙ least_assoc room (count - first - shown) (many - shown)
    ∙ ap (min room) (least_less many (count - first) shown)

module _ {run : Run} {p : ℕ} {before numbers : List ℕ} {answer : (Result ℕ Refusal)}
    (r : RemakePromise run p before numbers (plain_value answer)) where
  -- a run that is refused
  pub chunk_none : {x : Refusal} {first shown : ℕ} → answer ≡ Err x → p ≡ first + shown → (many : ℕ) (buf : List ℕ) →
      ChunkPromise run first many shown (length before) buf buf (record { made = 0; bytes = 0 })
  chunk_none {x} {first} {shown} e at many buf =
      let k = number_suc x in
      let n : run_refusal run ≡ suc k.0 =
      sym (refusal_is (run_refusal run) _ r.equals) ∙ ap (λ (a : (Result ℕ Refusal)). (plain_value a).refusal) e ∙ k.1 in
      let w = nothing_written run (first + shown) buf in
      record { count = rw n (omega arith); written = w; joined = joined_front run first shown 0 w }

  module _ {n : ℕ} (e : answer ≡ Ok n) where
    zero_refusal : run_refusal run ≡ 0
    zero_refusal = sym (refusal_is (run_refusal run) _ r.equals) ∙ ap (λ (a : (Result ℕ Refusal)). (plain_value a).refusal) e

    count_is : n ≡ remade_count run p (length before)
    count_is =
        let same : plain_value (Ok n) ≡ value_reply (run_refusal run) (remade_count run p (length before)) =
        ap (λ (a : (Result ℕ Refusal)). plain_value a) (sym e) ∙ r.equals in
        let plain : plain_value (Ok n) ≡ value_reply 0 (remade_count run p (length before)) = rw zero_refusal at same in
        ap (λ (v : ValueReply). v.value) plain

    buffer_is : numbers ≡ shown_from run p n ++ drop n before
    buffer_is =
        let all : numbers ≡ shown_from run p (remade_count run p (length before)) ++ drop (remade_count run p (length before)) before =
        rw zero_refusal at r.buffer in
        all ∙ ap (λ (k : ℕ). shown_from run p k ++ drop k before) (sym count_is)

    pub made_within : {m : ℕ} (left : ℕ) → m ≡ min n left → m ≤ length numbers
    made_within left least =
        omega (arith, least, count_is, simp (length-append, length-drop) at (ap length buffer_is), shown_length run p n)

    made_are : {m : ℕ} → m ≤ n → take m numbers ≡ shown_from run p m
    made_are {m} few =
        ap (take m) buffer_is
        ∙ take-append-le m (shown_from run p n) (drop n before) (omega (arith, shown_length run p n))
        ∙ shown_take run p m n few

    pub chunk_made : {first many shown m bytes : ℕ} {buf after : List ℕ} → p ≡ first + shown → m ≡ min n (many - shown) →
        FrontWritten (numbers_lines (take m numbers)) buf after bytes →
        ChunkPromise run first many shown (length before) buf after (record { made = m; bytes = bytes })
    chunk_made {first} {many} {shown} {m} {bytes} {buf} {after} at least w =
        let few : m ≤ n = omega (arith, least) in
        let w' : FrontWritten (text_from run (first + shown) m) buf after bytes =
        subst (λ (vs : List ℕ). FrontWritten (numbers_lines vs) buf after bytes)
        (made_are few ∙ ap (λ (q : ℕ). shown_from run q m) at) w in
        record {
          count =
              rw zero_refusal
              (least
              ∙ ap (λ (k : ℕ). min k (many - shown)) (count_is ∙ ap (λ (q : ℕ). remade_count run q (length before)) at)
              ∙ due_left (length before) run.count first many shown);
          written = w';
          joined = joined_front run first shown m w';
        }

-- the numbers of a chunk fit the buffer
pub chunk_fits : (m : ℕ) (numbers : List ℕ) {size : ℕ} → ((i : ℕ) → i < length numbers → get_or numbers i 0 < 2 ^ 64) →
    21 * length numbers ≤ size → length (numbers_lines (take m numbers)) ≤ size
chunk_fits m numbers below room =
    omega (arith, numbers_short (take m numbers) few_below, length-take m numbers)
  where
    few_below : (i : ℕ) → i < length (take m numbers) → get_or (take m numbers) i 0 < 2 ^ 64
    few_below i l =
        let in_front : i < m = omega (arith, length-take m numbers) in
        let same = get_or-take m numbers i 0 in_front in
        omega (arith, same, below i (omega (arith, length-take m numbers)))
