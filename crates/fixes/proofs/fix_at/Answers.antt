-- `fixes::fix_at` meets its contract.
use Rattle.refusals.proofs.Replies.{number_accepted}
use Rattle.fixes.proofs.Promises.{fix_given}
use Rattle.fixes.proofs.fix_at.Goals as goal

pub returns : goal.returns
returns c = fix_given _ _ (number_accepted c.fix_checked.ensures c.in_ok-fix_checked.was) c.fix_of.ensures
