-- The promise of writing a line, where the call refuses and where it writes.
use Rattle.std.specs.Prelude.{Ok, Err}
use mathlib.Core.Path.{◌≡◌, sym, ap, ◌∙◌}
use mathlib.Core.List.{List, ◌++◌}
use Prim.Native.Nat.{ℕ, ◌≤◌, ◌<◌}
use native.Mathlib.Omega.{arith}
use lib.ListN.{length, drop}
use borrow.Author.Tests.{lt-ltb, le-ltb}
use Rattle.fields.specs.Line.{fields_line}
use Rattle.fields.specs.Codec.{FrontWritten}
use Rattle.refusals.specs.declared.Refusal.{Refusal}
use Rattle.refusals.specs.declared.Refusal.TheVariants.{BufferTooShort}
use Rattle.refusals.specs.Refusals.{number_of}
use Rattle.refusals.specs.Replies.{plain_value}
use Rattle.refusals.proofs.Replies.{number_suc, value_refused, value_given}
use Rattle.runs.specs.declared.Run.{Run}
use Rattle.runs.specs.Run.{run_refusal}
use Rattle.lines.specs.Line.{numbers_of, line_of}
use Rattle.lines.specs.WriteLine.{write_refusal, WritePromise}

pub write_refused : (run : Run) (buffer : List ℕ) (x : Refusal) → number_of x ≡ write_refusal run buffer →
    WritePromise run buffer buffer (plain_value (Err x))
write_refused run buffer x e =
    record { equals = value_refused x _ e; buffer = let k = number_suc x in rw (← e, k.1) }

-- past the check: the buffer is too short for the line of the run's numbers, or the line is written to its front
module _ (run : Run) {numbers : List ℕ} {n : ℕ} (z : run_refusal run ≡ 0) (e : numbers ≡ numbers_of run)
    (l : n ≡ length (fields_line numbers)) where
  size : n ≡ length (line_of run)
  size = l ∙ ap (λ (vs : List ℕ). length (fields_line vs)) e

  pub write_short : (before : List ℕ) → length before < n → WritePromise run before before (plain_value (Err BufferTooShort))
  unfolding write_refusal
  write_short before h =
      write_refused run before BufferTooShort (simp (z, lt-ltb (length before) (length (line_of run)) (omega (arith, size))))

  pub write_done : {before after : List ℕ} {m : ℕ} → n ≤ length before → FrontWritten (fields_line numbers) before after m →
      WritePromise run before after (plain_value (Ok m))
  write_done {before} {after} {m} h w = record { equals = value_given _ fits (w.count ∙ sym l ∙ size); buffer = rw fits whole }
    where
      fits : write_refusal run before ≡ 0
      fits = unfold write_refusal in simp (z, le-ltb (length before) (length (line_of run)) (omega (arith, size)))

      whole : after ≡ line_of run ++ drop (length (line_of run)) before
      whole = w.whole ∙ ap (λ (vs : List ℕ). fields_line vs ++ drop (length (fields_line vs)) before) e
