-- A question is one line of n fields, and nothing else (SCOPE 7.1, 7.4).
use Rattle.std.specs.Prelude.{◌≡◌, Bool, false, cond, List, [], ℕ, ◌^◌, length, Option, None, Some}
use Rattle.fields.specs.Line.{AllBelow, fields_line, numbers_from, is_line}
use Rattle.archive_io.specs.declared.input.Rest.{Rest}
use Rattle.archive_io.specs.Source.{Source, holds, unreadable, ReadOf}

abbrev pub is_question : ℕ → Source → Bool
is_question n (holds bytes) = is_line n bytes
is_question n unreadable = false

-- Its numbers.
abbrev pub numbers_asked : Source → List ℕ
numbers_asked (holds bytes) = numbers_from 0 bytes
numbers_asked unreadable = []

-- The numbers, if there is a question.
abbrev pub question_of : ℕ → Source → Option (List ℕ)
question_of n stdin = cond (is_question n stdin) (Some (numbers_asked stdin)) None

-- The promise of reading one: whether standard input holds one, and its numbers.
pub record QuestionPromise (stdin : Source) (n : ℕ) (answer : Option (List ℕ)) : Type 0 where
  pub equals : answer ≡ question_of n stdin
  pub of_question :
      (vs : List ℕ) → length vs ≡ n → AllBelow (2 ^ 64) vs → stdin ≡ holds (fields_line vs) → answer ≡ Some vs
  pub of_others :
      ((vs : List ℕ) → length vs ≡ n → AllBelow (2 ^ 64) vs → stdin ≡ holds (fields_line vs) → ⊥) → answer ≡ None

-- It is kept whatever follows what was read.
pub record AskPromise (input : List ℕ) (rest : Rest) (n : ℕ) (answer : Option (List ℕ)) : Type 0 where
  pub is : (stdin : Source) → ReadOf stdin input rest → QuestionPromise stdin n answer
