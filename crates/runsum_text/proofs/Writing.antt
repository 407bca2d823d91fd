-- What each step of writing the text shows. The loop is a walk over the archive's runs whose state is the text so far, which
-- stands at the buffer's front: with the lines of the runs left it makes the whole. What is yet to be written is a part of the
-- whole, so there is room for it.
use mathlib.Core.Path.{◌≡◌, refl, sym, ap, ◌∙◌, subst}
use mathlib.Core.List.{List, [], ◌∷◌, ◌++◌, append_assoc, append-nil}
use Prim.Native.Nat.{ℕ, suc, ◌+◌, ◌-◌, ◌≤◌}
use native.Mathlib.Numerals.{add-one}
use native.Mathlib.Omega.{arith}
use lib.ListN.{length, take, drop, length-append}
use Rattle.fields.specs.Codec.{FrontWritten}
use Rattle.runs.specs.declared.Run.{Run}
use Rattle.archive.specs.Archive.{runs_in}
use Rattle.summary.specs.Summary.{total_of}
use Rattle.archive.proofs.Walking.{RunsLeft, runs_left, runs_next}
use Rattle.fields.proofs.FrontWriting.{front_kept, line_behind}
use Rattle.runsum_text.specs.Text.{run_text, runs_text, total_text, summary_text}

-- the line of the first run comes before those of the others
pub runs_first : (k : ℕ) (run : Run) (runs : List Run) → runs_text k (run ∷ runs) ≡ run_text k run ++ runs_text (suc k) runs
unfolding runs_text
runs_first k run runs = refl

-- The loop.
abbrev pub texting : ℕ → List ℕ → List Run → List ℕ
texting k text runs = text ++ runs_text k runs

-- the text of the runs before the rest, and the buffer with it
pub record TextSoFar (bytes before buf rest : List ℕ) (k n : ℕ) : Type 0 where
  pub text : List ℕ
  pub left : RunsLeft texting [] bytes rest k text
  pub written : FrontWritten text before buf n

pub text_start : {bytes before rest : List ℕ} {k : ℕ} → RunsLeft texting [] bytes rest k [] → TextSoFar bytes before before rest k 0
text_start w = record { text = []; left = w; written = record { whole = refl; count = refl } }

module _ {bytes before buf rest : List ℕ} {k n : ℕ} (t : TextSoFar bytes before buf rest k n) where
  module _ {run : Run} {runs : List Run} {number : ℕ} (e : runs_in rest ≡ run ∷ runs) (q : number ≡ k) where
    -- its line of the text
    abbrev line : List ℕ
    line = run_text number run

    -- comes next
    line_next : texting number t.text (run ∷ runs) ≡ texting (number + 1) (t.text ++ line) runs
    line_next =
        ap (λ (l : List ℕ). t.text ++ l) (runs_first number run runs)
        ∙ sym (append_assoc t.text line (runs_text (suc number) runs))
        ∙ ap (λ (j : ℕ). (t.text ++ line) ++ runs_text j runs) (sym (add-one number))

    pub text_room : length (runs_text 1 (runs_in bytes)) ≤ length before →
        (n ≤ length buf) × (n + length (run_text number run) ≤ length buf) × (length buf ≡ length before)
    text_room room =
        let whole : length (runs_text 1 (runs_in bytes)) ≡ length ((t.text ++ line) ++ runs_text (number + 1) runs) =
        ap length (runs_left t.left e q ∙ line_next) in
        let front = length-append t.text line in
        let parts = length-append (t.text ++ line) (runs_text (number + 1) runs) in
        let kept = front_kept t.written (omega (arith, whole, front, parts)) in
        omega (arith, whole, front, parts, kept, t.written.count)

    pub text_next : {rest' part : List ℕ} {k' m : ℕ} → runs ≡ runs_in rest' → k' ≡ number + 1 →
        FrontWritten (run_text number run) (take (length buf - n) (drop n buf)) part m →
        TextSoFar bytes before (take n buf ++ (part ++ drop (length buf - n) (drop n buf))) rest' k' (n + m)
    text_next r j f =
        record {
          text = t.text ++ line;
          left = runs_next t.left e q (t.text ++ line) r j line_next;
          written = line_behind t.written f;
        }

  pub text_end : texting 1 [] (runs_in bytes) ≡ texting k t.text [] → FrontWritten (runs_text 1 (runs_in bytes)) before buf n
  unfolding runs_text
  text_end e = subst (λ (text : List ℕ). FrontWritten text before buf n) (sym (e ∙ append-nil t.text)) t.written

  pub text_kept : texting 1 [] (runs_in bytes) ≡ texting k t.text [] → length (runs_text 1 (runs_in bytes)) ≤ length before →
      length buf ≡ length before
  text_kept e room = front_kept (text_end e) room

-- The total's line behind them.

-- the text has room for the lines of the runs
pub runs_room : (bytes : List ℕ) {size : ℕ} → length (summary_text bytes) ≤ size → length (runs_text 1 (runs_in bytes)) ≤ size
unfolding summary_text
runs_room bytes l = omega (arith, simp length-append at l)

module _ (bytes : List ℕ) {before between : List ℕ} {n total : ℕ} (w : FrontWritten (runs_text 1 (runs_in bytes)) before between n)
    (same : total ≡ total_of (runs_in bytes)) where
  pub total_room : length (summary_text bytes) ≤ length before →
      (n ≤ length between) × (n + length (total_text total) ≤ length between) × (length between ≡ length before)
  unfolding summary_text
  total_room room =
      let parts = simp length-append at room in
      let line = ap (λ (t : ℕ). length (total_text t)) same in
      let kept = front_kept w (omega (arith, parts)) in
      omega (arith, parts, line, kept, w.count)

  pub total_behind : {part : List ℕ} {m : ℕ} → FrontWritten (total_text total) (take (length between - n) (drop n between)) part m →
      FrontWritten (summary_text bytes) before (take n between ++ (part ++ drop (length between - n) (drop n between))) (n + m)
  unfolding summary_text
  total_behind f = rw (← same) (line_behind w f)
