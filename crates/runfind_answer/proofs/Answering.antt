-- The outcome of a lookup, by its answer: what it says in plain numbers is the reply of the definition.
use mathlib.Core.Path.{◌≡◌, sym, ap, ◌∙◌}
use mathlib.Core.List.{List}
use Prim.Native.Nat.{ℕ}
use borrow.Author.Tests.{ne_eqb}
use Rattle.refusals.specs.Refusals.{number_of}
use Rattle.refusals.proofs.Replies.{number_nonzero}
use Rattle.archive.specs.declared.LineRefusal.{LineRefusal}
use Rattle.lookup.specs.declared.location.Location.{Location}
use Rattle.lookup.specs.declared.LookupReply.{LookupReply}
use Rattle.lookup.specs.Lookup.{lookup_refused, plain_lookup, lookup_of, LookupPromise}
use Rattle.notices.specs.declared.notice.Notice.{Notice}
use Rattle.notices.specs.declared.notice.Notice.TheVariants.{NotFound, Refused}
use Rattle.std.specs.Option.{ok_or}
use Rattle.std.proofs.Common.{Option, None, Some, Result, Ok, Err}
use Rattle.runfind_answer.specs.Decision.{outcome_of}

refused_told : (n line : ℕ) → (n ≡ 0 → ⊥) → Err (Refused n line) ≡ outcome_of (lookup_refused n line)
refused_told n line d = rw (ne_eqb n 0 d)

module _ {bytes : List ℕ} {y : ℕ} {given : Result (Option Location) LineRefusal} (p : LookupPromise bytes y (plain_lookup given)) where
  outcome_of_lem : {known : Result (Option Location) LineRefusal} → given ≡ known → outcome_of (plain_lookup known) ≡ outcome_of (lookup_of bytes y)
  outcome_of_lem e =
      ap (λ (r : LookupReply). outcome_of r) (ap (λ (a : Result (Option Location) LineRefusal). plain_lookup a) (sym e) ∙ p.equals)

  -- a location is the outcome, and none is told as such
  pub outcome_found : (found : Option Location) {outcome : Result Location Notice} → given ≡ Ok found → outcome ≡ ok_or found NotFound →
      outcome ≡ outcome_of (lookup_of bytes y)
  outcome_found (Some location) e o = o ∙ outcome_of_lem e
  outcome_found None e o = o ∙ outcome_of_lem e

  pub outcome_refused : {r : LineRefusal} {n : ℕ} → given ≡ Err r → n ≡ number_of r.refusal → Err (Refused n r.line) ≡ outcome_of (lookup_of bytes y)
  outcome_refused {r} e same =
      ap (λ (m : ℕ). Err (Refused m r.line)) same ∙ refused_told (number_of r.refusal) r.line (number_nonzero r.refusal) ∙ outcome_of_lem e
