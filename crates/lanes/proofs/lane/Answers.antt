-- `lanes::lane` meets its contract.
use Rattle.refusals.proofs.Replies.{number_accepted}
use Rattle.lanes.proofs.Promises.{lane_given}
use Rattle.lanes.proofs.lane.Goals as goal

pub returns : goal.returns
returns c = lane_given _ _ _ ((number_accepted c.lane_checked.ensures c.in_ok-lane_checked.was)) c.lane_of.ensures
