-- The lookup: the earliest location in the archive that shows a number (SCOPE 1.3, 5.3, 5.4).
use Rattle.std.specs.Prelude.{◌≡◌, ◌↔◌, ◌⊎◌, true, false, List, [], ◌∷◌, ℕ, zero, suc, ◌<◌, eqb, ltb, Option, None, Some, Result, Ok, Err}
use Rattle.sequences.specs.Least.{least}
use Rattle.refusals.specs.Refusals.{number_of}
use Rattle.runs.specs.declared.Run.{Run}
use Rattle.runs.specs.Run.{shows}
use Rattle.lines.specs.Line.{no_run}
use Rattle.archive.specs.declared.LineRefusal.{LineRefusal}
use Rattle.lookup.specs.declared.location.Location.{Location}
use Rattle.archive.specs.Archive.{runs_in, numbered}
use Rattle.lookup.specs.declared.LookupReply.{LookupReply}
use Rattle.archive.specs.Check.{check_of, Accepts}

-- The least position of the run that shows y; its count if there is none.
unfoldable pub position_of : Run → ℕ → ℕ
position_of run y = least (λ p. eqb (shows run p) y) run.count

-- The replies: a refusal's number, 0 for none; the line of the location found or of the refusal; 1 if found, 0 for none; the
-- position.
abbrev pub found_at : ℕ → ℕ → LookupReply
found_at line p = record { refusal = 0; line = line; found = 1; position = p }

abbrev pub found_none : LookupReply
found_none = record { refusal = 0; line = 0; found = 0; position = 0 }

abbrev pub lookup_refused : ℕ → ℕ → LookupReply
lookup_refused n line = record { refusal = n; line = line; found = 0; position = 0 }

-- What a location says, and what an answer says.
abbrev pub plain_location : Option Location → LookupReply
plain_location (Some at) = found_at at.line at.position
plain_location None = found_none

abbrev pub plain_lookup : Result (Option Location) LineRefusal → LookupReply
plain_lookup (Ok found) = plain_location found
plain_lookup (Err r) = lookup_refused (number_of r.refusal) r.line

-- The first of the runs that shows y, numbered from k on, with its least position.
unfoldable pub first_showing : ℕ → List Run → ℕ → LookupReply
first_showing k [] y = found_none
first_showing k (run ∷ runs) y =
    elim (ltb (position_of run y) run.count) [
      | true ↦ found_at k (position_of run y)
      | false ↦ first_showing (suc k) runs y
    ]

unfoldable pub lookup_of : List ℕ → ℕ → LookupReply
lookup_of bytes y =
    elim (check_of bytes).refusal [
      | zero ↦ first_showing 1 (runs_in bytes) y
      | suc n ↦ lookup_refused (suc n) (check_of bytes).line
    ]

-- A location is document 01's place: a line number and a position of that line's run. A line that is not there has no
-- position, since no_run has none.
pub record Shows (runs : List Run) (line p y : ℕ) : Type 0 where
  pub position : p < (numbered no_run runs line).count
  pub value : shows (numbered no_run runs line) p ≡ y

-- Of two locations the one with the higher line number comes later, and within one line the one with the higher position.
abbrev pub Later : ℕ → ℕ → ℕ → ℕ → Type 0
Later line p line₀ p₀ = (line₀ < line) ⊎ ((line ≡ line₀) × (p₀ < p))

-- Demand 3 of the lookup, in its own words: the answer is a location, found is 1, or none, found is 0; the location given
-- shows the number; every other location in the archive that
-- shows it comes later; none comes exactly when no position of any run in the archive shows it.
pub record EarliestLocation (runs : List Run) (y : ℕ) (reply : LookupReply) : Type 0 where
  pub answer : (reply.found ≡ 1) ⊎ (reply.found ≡ 0)
  pub location_shows : reply.found ≡ 1 → Shows runs reply.line reply.position y
  pub others_later :
      reply.found ≡ 1 →
      (line p : ℕ) → Shows runs line p y → ((line ≡ reply.line) × (p ≡ reply.position) → ⊥) →
      Later line p reply.line reply.position
  pub none : (reply.found ≡ 0) ↔ ((line p : ℕ) → Shows runs line p y → ⊥)

-- The promise of the call.
pub record LookupPromise (bytes : List ℕ) (y : ℕ) (reply : LookupReply) : Type 0 where
  pub equals : reply ≡ lookup_of bytes y
  pub accepts : Accepts bytes reply.refusal
  pub meaning : reply.refusal ≡ 0 → EarliestLocation (runs_in bytes) y reply
