-- `variety::variety` meets its contract.
use Rattle.refusals.proofs.Replies.{number_accepted}
use Rattle.variety.proofs.Varieties.{variety_given}
use Rattle.variety.proofs.variety.Goals as goal

pub returns : goal.returns
returns c = variety_given _ (number_accepted c.checked.ensures c.in_ok-checked.was) c.variety_of.ensures
