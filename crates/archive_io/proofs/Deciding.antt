-- What was read decides the outcome, whatever else standard input and the file hold, if the outcome for an archive of more
-- than 65,536 bytes rests on no more than that. So it is by what follows the bytes read of the file; and where a question
-- comes first, the outcome for the question and the file is right for standard input and the file.
use mathlib.Core.Path.{◌≡◌, refl, sym, ap, ◌∙◌}
use mathlib.Core.List.{List, [], ◌++◌}
use Prim.Native.Nat.{ℕ, ◌≤◌}
use Rattle.std.proofs.Common.{◌≢◌}
use native.Mathlib.Omega.{arith}
use lib.ListN.{length, length-append}
use Rattle.archive_io.specs.declared.input.Rest.{Rest}
use Rattle.archive_io.specs.declared.input.Rest.TheVariants.{Nothing, Unknown, Failed}
use Rattle.archive_io.specs.Source.{Source, holds, unreadable, ReadOf}
use Rattle.archive_io.specs.Decision.{Asked, Decided, Answered}
use Rattle.archive_io.specs.Input.{Enough}

-- there is a source of which it was read
pub source_some : (bytes : List ℕ) (rest : Rest) → (source : Source) × ReadOf source bytes rest
source_some bytes Nothing = (holds bytes, refl)
source_some bytes Unknown = (holds (bytes ++ []), ([], refl))
source_some bytes Failed = (unreadable, refl)

-- What does not rest on more bytes than were read where more may follow: it is the same of the source and of the bytes read.
module _ {A : Type 0} (f : Source → A) {long : A} {needed : ℕ} (too_long : (bytes : List ℕ) → needed ≤ length bytes → f (holds bytes) ≡ long)
  where
    front_decides : {bytes : List ℕ} (rest : Rest) → rest ≢ Failed → Enough needed (length bytes) rest → (source : Source) →
        ReadOf source bytes rest → f source ≡ f (holds bytes)
    front_decides Nothing some enough source r = ap f r
    front_decides {bytes} Unknown some enough source r =
        ap f r.1
        ∙ too_long (bytes ++ r.0) (simp length-append (omega (arith, enough refl)))
        ∙ sym (too_long bytes (enough refl))
    front_decides Failed some enough source r = absurd (some refl)

    pub read_decides : {bytes : List ℕ} {rest : Rest} {room : ℕ} → rest ≢ Failed → Enough room (length bytes) rest → needed ≤ room →
        (source : Source) → ReadOf source bytes rest → f source ≡ f (holds bytes)
    read_decides {rest = rest} some full enough = front_decides rest some (λ u. omega (arith, full u))

-- What a program tells of the file, by whether it was read.
module _ {A : Type 0} (outcome_of : Source → A) {archive : List ℕ} {rest : Rest} {outcome : A} where
  pub decided_read : {long : A} {bytes : List ℕ} {room : ℕ} → ((bs : List ℕ) → 65537 ≤ length bs → outcome_of (holds bs) ≡ long) →
      (bytes ≡ archive) × (rest ≢ Failed) → Enough room (length archive) rest → 65537 ≤ room → outcome ≡ outcome_of (holds bytes) →
      Decided outcome_of archive rest outcome
  decided_read too_long readable full enough same =
      record {
        is = λ file r.
            same
            ∙ ap (λ (bs : List ℕ). outcome_of (holds bs)) readable.0
            ∙ sym (read_decides outcome_of too_long readable.1 full enough file r);
      }

  pub decided_unread : rest ≡ Failed → outcome ≡ outcome_of unreadable → Decided outcome_of archive rest outcome
  decided_unread t same = record { is = λ file r. same ∙ ap outcome_of (sym (rw t at r)) }

-- The same where a question comes first: there is none, or it is q.
module _ {Q A : Type 0} {asked_of : Source → Q} {none : Q} {outcome_for : Q → Source → A} {input archive : List ℕ}
    {input-rest archive-rest : Rest} {question : Q} {outcome : A} (a : Asked asked_of input input-rest question) where
  pub answered_none : question ≡ none → ((file : Source) → outcome ≡ outcome_for none file) →
      Answered asked_of none outcome_for input input-rest archive archive-rest outcome
  answered_none e same =
      record { equals = λ stdin file r f. same file ∙ ap (λ (q : Q). outcome_for q file) (sym e ∙ a.is stdin r) }

  pub answered : {q : Q} → question ≡ q → (q ≡ none → ⊥) → Decided (outcome_for q) archive archive-rest outcome →
      Answered asked_of none outcome_for input input-rest archive archive-rest outcome
  answered e some d =
      record {
        equals = λ stdin file r f.
            d.is file (f (λ n. some (sym e ∙ a.is stdin r ∙ n)))
            ∙ ap (λ (p : Q). outcome_for p file) (sym e ∙ a.is stdin r);
      }
