-- What a program tells, for everything that standard input and the file may hold. A program has its questions, Q, with one
-- that stands for no question, and its outcomes, A: the question that standard input holds and the outcome for it and the
-- file are the program's own definitions.
use Rattle.std.specs.Prelude.{◌≡◌, List, ℕ}
use Rattle.archive_io.specs.declared.input.Rest.{Rest}
use Rattle.archive_io.specs.Source.{Source, ReadOf}

-- The question is the one that standard input holds, whatever follows what was read.
pub record Asked {Q : Type 0} (asked_of : Source → Q) (input : List ℕ) (rest : Rest) (question : Q) : Type 0 where
  pub is : (stdin : Source) → ReadOf stdin input rest → question ≡ asked_of stdin

-- The outcome is the one for the file, whatever follows what was read.
pub record Decided {A : Type 0} (outcome_of : Source → A) (archive : List ℕ) (rest : Rest) (outcome : A) : Type 0 where
  pub is : (file : Source) → ReadOf file archive rest → outcome ≡ outcome_of file

-- The outcome is right, whatever standard input and the file hold; the file need be read only if there is a question.
pub record Answered {Q A : Type 0} (asked_of : Source → Q) (none : Q) (outcome_for : Q → Source → A) (input : List ℕ)
    (input-rest : Rest) (archive : List ℕ) (archive-rest : Rest) (outcome : A) : Type 0 where
  pub equals :
      (stdin file : Source) →
      ReadOf stdin input input-rest →
      ((asked_of stdin ≡ none → ⊥) → ReadOf file archive archive-rest) →
      outcome ≡ outcome_for (asked_of stdin) file
