-- Remaking a part of a run into a buffer of numbers (SCOPE 4.7).
use Rattle.std.specs.Prelude.{◌≡◌, List, [], ◌∷◌, ◌++◌, ℕ, zero, suc, ◌-◌, min, length, drop}
use Rattle.refusals.specs.declared.ValueReply.{ValueReply}
use Rattle.refusals.specs.Replies.{value_reply}
use Rattle.runs.specs.declared.Run.{Run}
use Rattle.runs.specs.Run.{shows, run_refusal}

-- What n positions show, p the first of them.
unfoldable pub shown_from : Run → ℕ → ℕ → List ℕ
shown_from run p zero = []
shown_from run p (suc n) = shows run p ∷ shown_from run (suc p) n

-- How many numbers are given: as many as there is room for and as the run has from position p on, none from its count on.
abbrev pub remade_count : Run → ℕ → ℕ → ℕ
remade_count run p room = min room (run.count - p)

-- The first n numbers of the buffer replaced by what positions from p on show.
abbrev pub remade_front : Run → ℕ → ℕ → List ℕ → List ℕ
remade_front run p n buffer = shown_from run p n ++ drop n buffer

-- What the buffer holds after the call: those numbers and, behind them, what stood there; all of what stood there beside a
-- refusal.
abbrev pub buffer_after_remake : ℕ → Run → ℕ → List ℕ → List ℕ
buffer_after_remake zero run p buffer = remade_front run p (remade_count run p (length buffer)) buffer
buffer_after_remake (suc n) run p buffer = buffer

-- The promise of the call: the reply with how many numbers were given, and the whole buffer.
pub record RemakePromise (run : Run) (position : ℕ) (before after : List ℕ) (reply : ValueReply) : Type 0 where
  pub equals : reply ≡ value_reply (run_refusal run) (remade_count run position (length before))
  pub buffer : after ≡ buffer_after_remake (run_refusal run) run position before
