-- Lists of calls: each call promises what the plain player answers and leaves, so by induction any list does, whatever the record
-- before it. After an accepted open nothing of that record is left.
use mathlib.Core.Path.{◌≡◌, refl, ap, ap₂, subst, ◌∙◌}
use mathlib.Core.List.{List, [], ◌∷◌}
use Prim.Native.Nat.{ℕ}
use Rattle.refusals.specs.declared.ValueReply.{ValueReply}
use Rattle.refusals.specs.Replies.{value_reply}
use Rattle.runs.specs.declared.Run.{Run}
use Rattle.runs.specs.Run.{run_refusal}
use Rattle.player.specs.declared.Player.{Player}
use Rattle.player.specs.PlainPlayer.{PlainPlayer, Call, Open, opened, unless_refused}
use Rattle.player.specs.Player.{plain_player, fields_after, told}
use Rattle.player.proofs.Promises.{plain_after, can_be_met}
use Rattle.player.specs.Calls.{answers_to, last_player, last_fields, Played, nothing, next, Agrees}

-- from any record whatever
pub agrees : {before after : Player} {calls : List Call} {replies : List ValueReply} → Played before calls replies after →
    Agrees before calls replies after
agrees nothing = record { answers = refl; plain = refl; fields = refl }
agrees (next {call = call} {calls = calls} p rest) =
    let later = agrees rest in
    record {
      answers = ap₂ (λ (x : ValueReply) (l : List ValueReply). x ∷ l) p.answers (later.answers ∙ ap (answers_to calls) p.plain);
      plain = later.plain ∙ ap (last_player calls) p.plain;
      fields = later.fields ∙ ap (last_fields calls) p.fields;
    }

-- and every list can be played on any record
pub can_be_played : (calls : List Call) (player : Player) →
    Played player calls (answers_to calls (plain_player player)) (last_fields calls player)
can_be_played [] player = nothing
can_be_played (call ∷ calls) player =
    next (can_be_met call player)
    (subst (λ (p : PlainPlayer). Played (fields_after call player) calls (answers_to calls p) (last_fields calls (fields_after call player)))
    (plain_after call player)
    (can_be_played calls (fields_after call player)))

-- from an opened player: the run opened is all that the rest depends on
pub from_opened : (run : Run) {before after : Player} {calls : List Call} {replies : List ValueReply} → run_refusal run ≡ 0 →
    Played before (Open run ∷ calls) replies after →
    (replies ≡ told 0 ∷ answers_to calls (opened run)) × (plain_player after ≡ last_player calls (opened run))
from_opened run {before} {after} {calls} {replies} z played =
    let a = agrees played in
    let e = ap (λ (n : ℕ). unless_refused n (plain_player before) (opened run)) z in (
      a.answers
          ∙ ap₂ (λ (x : ValueReply) (l : List ValueReply). x ∷ l) (ap (λ (n : ℕ). value_reply n 0) z) (ap (answers_to calls) e),
      a.plain ∙ ap (last_player calls) e,
    )
