-- The player's record: which plain player it stands for, every field of it after a call, and the promise of each call.
use Rattle.std.specs.Prelude.{◌≡◌, Result, Ok, Err, [], ◌∷◌, map, ℕ, zero, suc, ◌+◌, ◌-◌, get_or, set}
use Rattle.std.proofs.Math.Option.{Option, none, some}
use Rattle.refusals.specs.declared.Refusal.{Refusal}
use Rattle.refusals.specs.Refusals.{number_of}
use Rattle.refusals.specs.declared.ValueReply.{ValueReply}
use Rattle.player.specs.declared.Mark.{Mark}
use Rattle.player.specs.declared.Player.{Player}
use Rattle.player.specs.PlainPlayer.{PlainPlayer, Call, Open, Forward, Back, SetMark, Return, Show, call_refusal}
use Rattle.player.specs.PlainPlayer.{unless_refused, player_after, answer}

-- A mark whose field `set` is 0 is unset, whatever its position; any other number stands for set.
abbrev pub optional : ℕ → ℕ → Option ℕ
optional zero p = none
optional (suc n) p = some p

abbrev pub plain_mark : Mark → Option ℕ
plain_mark mark = optional mark.set mark.position

-- The plain player that a record stands for.
abbrev pub plain_player : Player → PlainPlayer
plain_player player =
    record { run = player.run; position = player.position; marks = map plain_mark player.marks }

-- An unset mark as open leaves it, and a set one as set leaves it.
abbrev pub unset : Mark
unset = record { set = 0; position = 0 }

abbrev pub set_at : ℕ → Mark
set_at p = record { set = 1; position = p }

-- The record at another position.
abbrev pub at : Player → ℕ → Player
at player p = record { run = player.run; position = p; marks = player.marks }

-- Every field that an accepted call leaves.
abbrev pub fields_changed : Call → Player → Player
fields_changed (Open run) player = record { run = run; position = 0; marks = unset ∷ unset ∷ unset ∷ unset ∷ [] }
fields_changed (Forward k) player = at player (player.position + k)
fields_changed (Back k) player = at player (player.position - k)
fields_changed (SetMark m) player =
    record { run = player.run; position = player.position; marks = set player.marks m (set_at player.position) }
fields_changed (Return m) player = at player (get_or player.marks m unset).position
fields_changed Show player = player

-- Every field after a call; a declined one leaves each as it was.
abbrev pub fields_after : Call → Player → Player
fields_after call player = unless_refused (call_refusal call (plain_player player)) player (fields_changed call player)

-- The promise of a call on any record: its answer and every field after it; and the record that is left stands for what the
-- plain player would be.
pub record PlayerPromise (call : Call) (before after : Player) (reply : ValueReply) : Type 0 where
  pub answers : reply ≡ answer call (plain_player before)
  pub fields : after ≡ fields_after call before
  pub plain : plain_player after ≡ player_after call (plain_player before)

-- What a call leaves that takes the record by value: what it gives or, beside a refusal, the record as it was; and the number of
-- its refusal, 0 for none.
abbrev pub left : Player → Result Player Refusal → Player
left before (Ok after) = after
left before (Err r) = before

abbrev pub refusal_told : Result Player Refusal → ℕ
refusal_told (Ok after) = 0
refusal_told (Err r) = number_of r

-- The answer of a call that only tells whether it was accepted.
abbrev pub told : ℕ → ValueReply
told refusal = record { refusal = refusal; value = 0 }
