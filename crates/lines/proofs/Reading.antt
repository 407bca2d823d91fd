-- Reading a line, by its definition. The line of a run has that run's numbers, and where `is_line` accepts bytes they are the
-- line of the run of the numbers guessed; so the definition has its meaning, and each way out of the call is the definition.
use Rattle.std.specs.Prelude.{Result, Ok, Err}
use mathlib.Core.Path.{◌≡◌, refl, sym, ap, ◌∙◌, subst}
use mathlib.Core.Bool.{Bool, true, false, true≢false}
use mathlib.Core.List.{List, [], ◌∷◌}
use Prim.Native.Nat.{ℕ, zero, suc, ◌^◌}
use native.Mathlib.Omega.{arith}
use lib.ListN.{length}
use Rattle.refusals.specs.declared.Refusal.{Refusal}
use Rattle.refusals.specs.declared.Refusal.TheVariants.{MalformedLine}
use Rattle.refusals.specs.Refusals.{number_of}
use Rattle.refusals.proofs.Replies.{number_suc}
use Rattle.fields.specs.Codec.{LineRead}
use Rattle.fields.specs.Line.{AllBelow, fields_line, numbers_from, is_line}
use Rattle.fields.proofs.Numbers.{numbers_line, line_injective, is_line_lem, line_is, no_test}
use Rattle.runs.specs.declared.Run.{Run}
use Rattle.runs.specs.Run.{run_refusal}
use Rattle.lines.specs.Line.{numbers_of, line_of, run_of}
use Rattle.runs.proofs.Runs.{valid_run}
use Rattle.lines.proofs.Lines.{valid_words}
use Rattle.lines.specs.declared.RunReply.{RunReply}
use Rattle.lines.specs.ReadLine.{IsLine, ReadPromise, refused_run, plain_run, run_reply, run_in, read_of}

-- two runs with the same line are the same run
pub line_run : {run other : Run} → line_of run ≡ line_of other → run ≡ other
line_run e = ap run_of (line_injective _ _ e)

-- the six numbers of the run of six numbers
numbers_back : (vs : List ℕ) → length vs ≡ 6 → numbers_of (run_of vs) ≡ vs
numbers_back [] e = absurd (omega arith)
numbers_back (a ∷ []) e = absurd (omega arith)
numbers_back (a ∷ b ∷ []) e = absurd (omega arith)
numbers_back (a ∷ b ∷ c ∷ []) e = absurd (omega arith)
numbers_back (a ∷ b ∷ c ∷ d ∷ []) e = absurd (omega arith)
numbers_back (a ∷ b ∷ c ∷ d ∷ f ∷ []) e = absurd (omega arith)
numbers_back (a ∷ b ∷ c ∷ d ∷ f ∷ g ∷ []) e = refl
numbers_back (a ∷ b ∷ c ∷ d ∷ f ∷ g ∷ h ∷ l) e = absurd (omega arith)

-- bytes that are a line, and any others
in_line : {bytes : List ℕ} → is_line 6 bytes ≡ true → IsLine bytes (run_in bytes)
in_line {bytes} t =
    let l = is_line_lem 6 t in
    let e = sym (numbers_back (numbers_from 0 bytes) l.count) in
    record { words = subst (AllBelow (2 ^ 64)) e l.small; line = l.line ∙ ap fields_line e }

read_lines : (bytes : List ℕ) → is_line 6 bytes ≡ true → read_of bytes ≡ run_reply (run_refusal (run_in bytes)) (run_in bytes)
unfolding read_of
read_lines bytes t = rw (t, read_of)

read_others : (bytes : List ℕ) → is_line 6 bytes ≡ false → read_of bytes ≡ refused_run 2
unfolding read_of
read_others bytes t = rw (t, read_of)

-- The line of a run reads as that run or its refusal.
read_of_lem : {bytes : List ℕ} {run : Run} → IsLine bytes run → read_of bytes ≡ run_reply (run_refusal run) run
read_of_lem {bytes} {run} h =
    read_lines bytes (line_is 6 (numbers_of run) refl h.words h.line)
    ∙ ap (λ (r : Run). run_reply (run_refusal r) r) (ap (λ (bs : List ℕ). run_in bs) h.line ∙ ap run_of (numbers_line (numbers_of run)))

reply_refusal : (n : ℕ) (run : Run) → (run_reply n run).refusal ≡ n
reply_refusal zero run = refl
reply_refusal (suc n) run = refl

reply_run : {n : ℕ} (run : Run) → n ≡ 0 → (run_reply n run).run ≡ run
reply_run run e = rw e

-- an accepted line is the line of the run in it, which is accepted
accepted_is_line : (bytes : List ℕ) → (read_of bytes).refusal ≡ 0 → is_line 6 bytes ≡ true
accepted_is_line bytes z = go (is_line 6 bytes) refl
  where
    go : (t : Bool) → is_line 6 bytes ≡ t → is_line 6 bytes ≡ true
    go true t = t
    go false t = absurd (omega (arith, ap (λ (r : RunReply). r.refusal) (read_others bytes t)))

pub accepted_line : (bytes : List ℕ) → (read_of bytes).refusal ≡ 0 → (run_refusal (run_in bytes) ≡ 0) × IsLine bytes (run_in bytes)
accepted_line bytes z =
    let t = accepted_is_line bytes z in
    (sym (ap (λ (r : RunReply). r.refusal) (read_lines bytes t) ∙ reply_refusal _ (run_in bytes)) ∙ z, in_line t)

-- so it is read as that run
pub accepted_run_lem : (bytes : List ℕ) → (read_of bytes).refusal ≡ 0 → (read_of bytes).run ≡ run_in bytes
accepted_run_lem bytes z =
    let a = accepted_line bytes z in
    ap (λ (r : RunReply). r.run) (read_of_lem a.1) ∙ reply_run (run_in bytes) a.0

-- and the line of an accepted run reads as that run
own_line : (run : Run) → run_refusal run ≡ 0 → IsLine (line_of run) run
own_line run z = record { words = valid_words (valid_run run z); line = refl }

pub own_run : (run : Run) → run_in (line_of run) ≡ run
own_run run = ap run_of (numbers_line (numbers_of run))

pub own_accepted : (run : Run) → run_refusal run ≡ 0 → (read_of (line_of run)).refusal ≡ 0
own_accepted run z = ap (λ (r : RunReply). r.refusal) (read_of_lem (own_line run z)) ∙ reply_refusal _ run ∙ z

-- what is refused with another number than 2 is a line, and the number is its run's
refused_line_lem : (bytes : List ℕ) → ((read_of bytes).refusal ≡ 0 → ⊥) → ((read_of bytes).refusal ≡ 2 → ⊥) →
    (run : Run) × (IsLine bytes run × (run_refusal run ≡ (read_of bytes).refusal))
refused_line_lem bytes some other = go (is_line 6 bytes) refl
  where
    go : (t : Bool) → is_line 6 bytes ≡ t → (run : Run) × (IsLine bytes run × (run_refusal run ≡ (read_of bytes).refusal))
    go true t =
        (run_in bytes, (in_line t, sym (ap (λ (r : RunReply). r.refusal) (read_lines bytes t) ∙ reply_refusal _ (run_in bytes))))
    go false t = absurd (other (ap (λ (r : RunReply). r.refusal) (read_others bytes t)))

read_kept : (bytes : List ℕ) → ReadPromise bytes (read_of bytes)
read_kept bytes =
    record {
      equals = refl;
      of_line = λ run h. read_of_lem h;
      of_others = λ f. read_others bytes (no_test (is_line 6 bytes) (λ t. f (run_in bytes) (in_line t)));
      accepted = λ z.
          subst (IsLine bytes) (sym (accepted_run_lem bytes z)) (accepted_line bytes z).1;
      refused = refused_line_lem bytes;
    }

read_promise : {bytes : List ℕ} {reply : RunReply} → reply ≡ read_of bytes → ReadPromise bytes reply
read_promise {bytes} e = subst (ReadPromise bytes) (sym e) (read_kept bytes)

-- the promise of an answer that is known
pub read_as : {bytes : List ℕ} {a : (Result Run Refusal)} (b : (Result Run Refusal)) → a ≡ b → ReadPromise bytes (plain_run a) → ReadPromise bytes (plain_run b)
read_as {bytes} b e r = subst (λ (c : (Result Run Refusal)). ReadPromise bytes (plain_run c)) e r

-- The ways out of the call.
pub read_malformed : {bytes : List ℕ} → is_line 6 bytes ≡ false → ReadPromise bytes (plain_run (Err MalformedLine))
read_malformed {bytes} f = read_promise (sym (read_others bytes f))

module _ (bytes : List ℕ) {run : Run} (l : (is_line 6 bytes ≡ true) × (run ≡ run_in bytes)) where
  read : read_of bytes ≡ run_reply (run_refusal run) run
  read = read_lines bytes l.0 ∙ ap (λ (r : Run). run_reply (run_refusal r) r) (sym l.1)

  pub read_refused : (x : Refusal) → number_of x ≡ run_refusal run → ReadPromise bytes (plain_run (Err x))
  read_refused x r = read_promise (sym (read ∙ let j = number_suc x in rw (← r, j.1)))

  pub read_accepted : run_refusal run ≡ 0 → ReadPromise bytes (plain_run (Ok run))
  read_accepted z = read_promise (sym (read ∙ rw z))

-- and bytes that are known to be an accepted line are one
pub known_line : (bytes : List ℕ) → (read_of bytes).refusal ≡ 0 → is_line 6 bytes ≡ false → ⊥
known_line bytes z f = true≢false (sym (accepted_is_line bytes z) ∙ f)

-- and the numbers read of them are those of its run
pub read_known : {bytes before numbers : List ℕ} {answer : Bool} → LineRead bytes before numbers answer → length before ≡ 6 → {run : Run} →
    (read_of bytes).refusal ≡ 0 → run ≡ run_of numbers → run ≡ run_in bytes
read_known {bytes} l room z e =
    e ∙ ap run_of (l.numbers (l.is_line_lem ∙ ap (λ (n : ℕ). is_line n bytes) room ∙ accepted_is_line bytes z))
