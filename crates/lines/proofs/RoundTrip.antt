-- The round trip of demand 2, read off the two promises: what is written for an accepted run reads as that run, and an
-- accepted line is byte for byte what the writer makes of it.
use Rattle.std.specs.Prelude.{Result, Ok, Err}
use mathlib.Core.Path.{◌≡◌, refl, sym, ap, ap₂, subst, ◌∙◌}
use mathlib.Core.Bool.{cond}
use mathlib.Core.List.{List}
use Prim.Native.Nat.{ℕ, zero, suc, ◌≤◌}
use native.Mathlib.Omega.{arith}
use lib.Dec.{ltb}
use lib.ListN.{length, take, length-take}
use lib.Seq.{take_at}
use borrow.Author.Tests.{le-ltb}
use Rattle.refusals.specs.declared.Refusal.{Refusal}
use Rattle.refusals.specs.Refusals.{number_of, or_else}
use Rattle.refusals.specs.declared.ValueReply.{ValueReply}
use Rattle.refusals.specs.Replies.{value_reply, plain_value}
use Rattle.refusals.proofs.Conditions.{or_else_none}
use Rattle.refusals.proofs.Replies.{number_suc}
use Rattle.runs.specs.declared.Run.{Run}
use Rattle.runs.specs.Run.{run_refusal}
use Rattle.lines.specs.Line.{line_of}
use Rattle.lines.specs.declared.RunReply.{RunReply}
use Rattle.lines.specs.ReadLine.{ReadPromise, accepted_run, refused_run, run_reply}
use Rattle.lines.specs.WriteLine.{write_refusal, buffer_after, WritePromise}
use Rattle.runs.proofs.Runs.{valid_run}
use Rattle.lines.proofs.Lines.{valid_words, line_short}

-- the refusal and the value that a reply carries
reply_refusal : (n v : ℕ) → (value_reply n v).refusal ≡ n
reply_refusal zero v = refl
reply_refusal (suc n) v = refl

run_refusal_lem : (n : ℕ) (run : Run) → (run_reply n run).refusal ≡ n
run_refusal_lem zero run = refl
run_refusal_lem (suc n) run = refl

reply_value : {n : ℕ} (v : ℕ) → n ≡ 0 → (value_reply n v).value ≡ v
reply_value v e = rw e

-- what an accepted write leaves at the front of the buffer
module _ {run : Run} {before after : List ℕ} {wrote : ValueReply} (w : WritePromise run before after wrote)
    (z : wrote.refusal ≡ 0) where
  accepted : write_refusal run before ≡ 0
  accepted = sym (ap (λ (r : ValueReply). r.refusal) w.equals ∙ reply_refusal _ _) ∙ z

  written_run : run_refusal run ≡ 0
  unfolding write_refusal
  written_run = (or_else_none (run_refusal run) _ accepted).0

  pub written_line : take wrote.value after ≡ line_of run
  written_line =
      ap₂ take (ap (λ (r : ValueReply). r.value) w.equals ∙ reply_value _ accepted)
      (w.buffer ∙ ap (λ (n : ℕ). buffer_after n run before) accepted)
      ∙ take_at (line_of run) _ (length (line_of run)) refl

-- what was written reads as the run that was written
written_reads :
    {run : Run} {before after : List ℕ} {wrote : ValueReply} {reads : RunReply} →
    WritePromise run before after wrote →
    wrote.refusal ≡ 0 →
    ReadPromise (take wrote.value after) reads →
    reads ≡ accepted_run run
written_reads {run} w z r =
    r.of_line run (record { words = valid_words (valid_run run (written_run w z)); line = written_line w z })
    ∙ ap (λ (n : ℕ). run_reply n run) (written_run w z)

-- an accepted line is the one that the writer makes of the run read, whatever the buffer held before; and every buffer that
-- is at least as long as the line is accepted
read_writes :
    {bytes before after : List ℕ} {wrote : ValueReply} {reads : RunReply} →
    ReadPromise bytes reads →
    reads.refusal ≡ 0 →
    WritePromise reads.run before after wrote →
    length bytes ≤ length before →
    (wrote.refusal ≡ 0) × (take wrote.value after ≡ bytes)
unfolding write_refusal
read_writes {bytes} {before} {wrote = wrote} {reads} r z w l = (fits, written_line w fits ∙ sym line)
  where
    line : bytes ≡ line_of reads.run
    line = (r.accepted z).line

    accepted_run_lem : run_refusal reads.run ≡ 0
    accepted_run_lem =
        sym (ap (λ (p : RunReply). p.refusal) (r.of_line reads.run (r.accepted z)) ∙ run_refusal_lem _ reads.run) ∙ z

    none : write_refusal reads.run before ≡ 0
    none = rw (accepted_run_lem, le-ltb (length before) (length (line_of reads.run)) (omega (arith, ap length line)))

    fits : wrote.refusal ≡ 0
    fits = ap (λ (p : ValueReply). p.refusal) w.equals ∙ reply_refusal _ _ ∙ none

-- For a client that has a buffer of 107 bytes: it is refused only what the run is refused, and gets the run back.
pub write_as : {run : Run} {before after : List ℕ} {a : (Result ℕ Refusal)} (b : (Result ℕ Refusal)) → a ≡ b →
    WritePromise run before after (plain_value a) → WritePromise run before after (plain_value b)
write_as {run} {before} {after} b e w = subst (λ (c : (Result ℕ Refusal)). WritePromise run before after (plain_value c)) e w

room_enough : (run : Run) (buffer : List ℕ) → 107 ≤ length buffer → write_refusal run buffer ≡ run_refusal run
unfolding write_refusal
room_enough run buffer l = go (run_refusal run) refl
  where
    go : (n : ℕ) → run_refusal run ≡ n → or_else n (cond (ltb (length buffer) (length (line_of run))) 8 0) ≡ n
    go zero e = rw (le-ltb (length buffer) (length (line_of run)) (omega (arith, line_short (valid_run run e))))
    go (suc n) e = refl

pub write_refusal_lem : {run : Run} {before after : List ℕ} (x : Refusal) → WritePromise run before after (plain_value (Err x)) →
    107 ≤ length before → refused_run (number_of x) ≡ run_reply (run_refusal run) run
write_refusal_lem {run} {before} x w l =
    let e : number_of x ≡ run_refusal run =
    ap (λ (r : ValueReply). r.refusal) w.equals ∙ reply_refusal _ _ ∙ room_enough run before l in
    let k = number_suc x in rw (← e, k.1)

pub written_fits : {run : Run} {before after : List ℕ} {n : ℕ} → WritePromise run before after (plain_value (Ok n)) → n ≤ length after
written_fits {run} {before} {after} {n} w =
    let e : n ≡ length (line_of run) = ap (λ (r : ValueReply). r.value) w.equals ∙ reply_value _ (accepted w refl) in
    omega (arith, length-take n after, ap length (written_line w refl))

pub written_back : {run : Run} {before after : List ℕ} {n : ℕ} {reads : RunReply} → WritePromise run before after (plain_value (Ok n)) →
    ReadPromise (take n after) reads → reads ≡ run_reply (run_refusal run) run
written_back {run} w r = written_reads w refl r ∙ sym (ap (λ (n : ℕ). run_reply n run) (written_run w refl))
