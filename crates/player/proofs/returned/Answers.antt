-- `player::returned` meets its contract: of a mark that there is, what it holds decides.
use mathlib.Core.Path.{refl}
use native.Mathlib.Omega.{arith}
use Rattle.refusals.specs.declared.Refusal.TheVariants as refusal
use Rattle.refusals.proofs.Replies.{number_accepted}
use Rattle.player.specs.PlainPlayer.{Return}
use Rattle.player.proofs.Promises.{held_passed, declined_promise, accepted_promise}
use Rattle.player.proofs.Promises.{return_off, return_on}
use Rattle.player.proofs.returned.Goals as goal

pub returns-then-player-target : goal.returns-then-player-target
returns-then-player-target c =
    declined_promise (Return _) _ refl refusal.PositionOutOfRange
    (return_off (held_passed c.args.player (number_accepted c.held.ensures c.in_ok-held.was)) c.args.to (omega arith) refl c.if-target-eq0.false (omega arith))

pub returns : goal.returns
returns c =
    accepted_promise (Return _) _ refl
    (return_on (held_passed c.args.player (number_accepted c.held.ensures c.in_ok-held.was)) c.args.to (omega arith) refl c.if-target-eq0.false (omega arith))
    c.moved.ensures
