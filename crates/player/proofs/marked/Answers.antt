-- `player::marked` meets its contract.
use mathlib.Core.Path.{refl}
use native.Mathlib.Omega.{arith}
use Rattle.refusals.proofs.Replies.{number_accepted}
use Rattle.player.specs.PlainPlayer.{SetMark}
use Rattle.player.proofs.Promises.{held_passed, accepted_promise}
use Rattle.player.proofs.Promises.{mark_taken}
use Rattle.player.proofs.marked.Goals as goal

pub returns : goal.returns
returns c =
    accepted_promise (SetMark _) _ refl
    (mark_taken (held_passed c.args.player (number_accepted c.held.ensures c.in_ok-held.was)) c.args.mark (omega arith))
    refl
