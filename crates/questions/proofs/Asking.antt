-- What reading the question shows: it is a line, so the laws of lines tell whether the bytes are one, and a line of n fields
-- has at most 21 * n bytes.
use mathlib.Core.Path.{◌≡◌, refl, sym, ap, ◌∙◌}
use mathlib.Core.Bool.{false}
use mathlib.Core.List.{List, [], ◌∷◌}
use Prim.Native.Nat.{ℕ, zero, suc, ◌*◌, ◌≤◌, ◌<◌}
use native.Mathlib.Omega.{arith}
use lib.ListN.{length, get_or}
use Rattle.std.proofs.Common.{Option, None, Some, ◌≢◌}
use Rattle.fields.specs.Line.{AllBelow, fields_line, numbers_from, is_line}
use Rattle.fields.specs.Codec.{ArrayRead}
use Rattle.fields.proofs.Codec.{line_bound}
use Rattle.fields.proofs.Numbers.{numbers_line, line_is, no_line}
use Rattle.archive_io.specs.declared.input.Rest.{Rest}
use Rattle.archive_io.specs.declared.input.Rest.TheVariants.{Failed}
use Rattle.archive_io.specs.Source.{Source, holds, unreadable}
use Rattle.archive_io.specs.Input.{Enough}
use Rattle.archive_io.proofs.Deciding.{read_decides}
use Rattle.questions.specs.Question.{question_of, QuestionPromise, AskPromise}

-- each of them is below the bound
each_below : {m : ℕ} (vs : List ℕ) → AllBelow m vs → (i : ℕ) → i < length vs → get_or vs i 0 < m
each_below [] small i l = absurd (omega arith)
each_below (v ∷ vs) small zero l = small.0
each_below (v ∷ vs) small (suc i) l = each_below vs small.1 i (omega arith)

long_line : (n : ℕ) (bytes : List ℕ) → 21 * n < length bytes → is_line n bytes ≡ false
long_line n bytes long =
    no_line n (λ vs count small e. omega (arith, ap length e, line_bound vs (each_below vs small), ap (λ (k : ℕ). 21 * k) count))

-- What is defined to be the answer keeps the promise.
question_promise : (stdin : Source) (n : ℕ) → QuestionPromise stdin n (question_of n stdin)
question_promise (holds bytes) n =
    record {
      equals = refl;
      of_question = λ vs count small same.
          let bytes_are : bytes ≡ fields_line vs = cc in
          rw (line_is n vs count small bytes_are) (ap Some (ap (numbers_from 0) bytes_are ∙ numbers_line vs));
      of_others = λ none. rw (no_line n (λ vs count small same. none vs count small (ap holds same))) refl;
    }
question_promise unreadable n =
    record {
      equals = refl;
      of_question = λ vs count small same. absurd (let z : ◌≡◌ {A = ℕ} 0 1 = cc in omega arith);
      of_others = λ none. refl;
    }

-- What reading the numbers gives is the answer.
answer_is : (bytes : List ℕ) (n : ℕ) (answer : Option (List ℕ)) → ArrayRead bytes n answer → answer ≡ question_of n (holds bytes)
answer_is bytes n (Some numbers) l = rw l.0 (ap (λ (vs : List ℕ). Some vs) l.1)
answer_is bytes n None l = rw l refl

pub ask_read : (bytes : List ℕ) {input : List ℕ} {rest : Rest} {room : ℕ} (n : ℕ) (answer : Option (List ℕ)) → ArrayRead bytes n answer →
    (bytes ≡ input) × (rest ≢ Failed) → Enough room (length input) rest → suc (21 * n) ≤ room → AskPromise input rest n answer
ask_read bytes {input} {rest} n answer l readable full enough =
    record {
      is = λ stdin r.
          let same : answer ≡ question_of n stdin =
          answer_is bytes n answer l
          ∙ ap (λ (bs : List ℕ). question_of n (holds bs)) readable.0
          ∙ sym (read_decides (question_of n) {long = None} (λ bs long. rw (long_line n bs (omega arith)) refl) readable.1 full enough stdin r) in
          rw same (question_promise stdin n);
    }
