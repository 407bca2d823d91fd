-- The plain player of document 02's Note 8: a run, a position and four optional positions, and what each call gives and leaves
-- (SCOPE 4.8).
use Rattle.std.specs.Prelude.{cond, List, [], ◌∷◌, ℕ, zero, suc, ◌+◌, ◌-◌, leb, ltb, get_or, set}
use Rattle.std.proofs.Math.Option
use Rattle.std.proofs.Math.Option.{Option, none, some}
use Rattle.refusals.specs.Refusals.{or_else}
use Rattle.refusals.specs.declared.ValueReply.{ValueReply}
use Rattle.refusals.specs.Replies.{value_reply}
use Rattle.runs.specs.declared.Run.{Run}
use Rattle.runs.specs.Run.{shows, run_refusal}

-- `marks` has the positions of marks 0 to 3.
pub record PlainPlayer : Type 0 where
  pub run : Run
  pub position : ℕ
  pub marks : List (Option ℕ)

-- The calls: open a run, move forward or back by k, set mark m, return to mark m, show the number.
pub data Call : Type 0 where
  Open : Run → Call
  Forward : ℕ → Call
  Back : ℕ → Call
  SetMark : ℕ → Call
  Return : ℕ → Call
  Show : Call

-- 12: the position is none of the run's.
abbrev pub off_run : Run → ℕ → ℕ
off_run run p = cond (leb run.count p) 12 0

-- The position of mark m: none where the mark is above 3, or unset.
abbrev pub mark_at : PlainPlayer → ℕ → Option ℕ
mark_at player m = cond (leb 4 m) none (get_or player.marks m none)

-- What every call but open checks first: the run held, 3 to 5, then the position held.
abbrev pub held_refusal : PlainPlayer → ℕ
held_refusal player = or_else (run_refusal player.run) (off_run player.run player.position)

-- Returning: 13 where there is no mark to return to, then 12.
abbrev pub return_refusal : Run → Option ℕ → ℕ
return_refusal run none = 13
return_refusal run (some p) = off_run run p

-- The refusal that a call meets, 0 for none. A move back from a position of the run can leave it only below 0.
abbrev pub call_refusal : Call → PlainPlayer → ℕ
call_refusal (Open run) player = run_refusal run
call_refusal (Forward k) player = or_else (held_refusal player) (off_run player.run (player.position + k))
call_refusal (Back k) player = or_else (held_refusal player) (cond (ltb player.position k) 12 0)
call_refusal (SetMark m) player = or_else (held_refusal player) (cond (leb 4 m) 13 0)
call_refusal (Return m) player = or_else (held_refusal player) (return_refusal player.run (mark_at player m))
call_refusal Show player = held_refusal player

-- An opened player: at position 0, with no mark set.
abbrev pub opened : Run → PlainPlayer
opened run = record { run = run; position = 0; marks = none ∷ none ∷ none ∷ none ∷ [] }

-- The player at another position.
abbrev pub moved_to : PlainPlayer → ℕ → PlainPlayer
moved_to player p = record { run = player.run; position = p; marks = player.marks }

-- What an accepted call leaves.
abbrev pub changed : Call → PlainPlayer → PlainPlayer
changed (Open run) player = opened run
changed (Forward k) player = moved_to player (player.position + k)
changed (Back k) player = moved_to player (player.position - k)
changed (SetMark m) player =
    record { run = player.run; position = player.position; marks = set player.marks m (some player.position) }
changed (Return m) player = moved_to player (Option.get_or (mark_at player m) player.position)
changed Show player = player

-- Of what was and what a call would leave, what is there after it: a refusal other than 0 changes nothing.
abbrev pub unless_refused : {A : Type 0} → ℕ → A → A → A
unless_refused zero before after = after
unless_refused (suc n) before after = before

abbrev pub player_after : Call → PlainPlayer → PlainPlayer
player_after call player = unless_refused (call_refusal call player) player (changed call player)

-- The number that a call shows; 0 for those that only tell whether they were accepted.
abbrev pub number_shown : Call → PlainPlayer → ℕ
number_shown (Open run) player = 0
number_shown (Forward k) player = 0
number_shown (Back k) player = 0
number_shown (SetMark m) player = 0
number_shown (Return m) player = 0
number_shown Show player = shows player.run player.position

-- What a call answers: the refusal and the number, 0 beside a refusal.
abbrev pub answer : Call → PlainPlayer → ValueReply
answer call player = value_reply (call_refusal call player) (number_shown call player)
