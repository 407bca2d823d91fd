-- Lists of calls: what the plain player answers and leaves, and calls made one after the other on one record.
use Rattle.std.specs.Prelude.{◌≡◌, List, [], ◌∷◌}
use Rattle.refusals.specs.declared.ValueReply.{ValueReply}
use Rattle.player.specs.declared.Player.{Player}
use Rattle.player.specs.PlainPlayer.{PlainPlayer, Call, player_after, answer}
use Rattle.player.specs.Player.{plain_player, PlayerPromise, fields_after}

-- The plain player's answers, its last state, and a record's last fields.
abbrev pub answers_to : List Call → PlainPlayer → List ValueReply
answers_to [] player = []
answers_to (call ∷ calls) player = answer call player ∷ answers_to calls (player_after call player)

abbrev pub last_player : List Call → PlainPlayer → PlainPlayer
last_player [] player = player
last_player (call ∷ calls) player = last_player calls (player_after call player)

abbrev pub last_fields : List Call → Player → Player
last_fields [] player = player
last_fields (call ∷ calls) player = last_fields calls (fields_after call player)

-- Calls made on one record, each as it promises: the record before them, the calls, their answers, the record after them.
pub data Played : Player → List Call → List ValueReply → Player → Type 0 where
  nothing : {player : Player} → Played player [] [] player
  next : {before between after : Player} {call : Call} {reply : ValueReply} {calls : List Call} {replies : List ValueReply} →
      PlayerPromise call before between reply → Played between calls replies after →
      Played before (call ∷ calls) (reply ∷ replies) after

-- What is shown of them (proofs/Calls.antt): all answers and the record at the end agree with the plain player's, and every field
-- is known.
pub record Agrees (before : Player) (calls : List Call) (replies : List ValueReply) (after : Player) : Type 0 where
  pub answers : replies ≡ answers_to calls (plain_player before)
  pub plain : plain_player after ≡ last_player calls (plain_player before)
  pub fields : after ≡ last_fields calls before
