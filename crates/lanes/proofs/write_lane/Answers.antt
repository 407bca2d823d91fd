-- `lanes::write_lane` meets its contract: the lane is an accepted run, so that of what writing a line refuses only 8 is left.
use Rattle.refusals.proofs.Replies.{number_accepted}
use Rattle.lanes.proofs.Promises.{write_lane_refused, write_lane_written}
use Rattle.std.proofs.Common.{rules}
use Rattle.lanes.proofs.write_lane.Goals as goal

pub lane_of-own-requires : goal.lane_of-own-requires
lane_of-own-requires c = (number_accepted c.lane_checked.ensures c.in_ok-lane_checked.was)

pub returns : goal.returns
returns c =
    write_lane_written _ _ _ ((number_accepted c.lane_checked.ensures c.in_ok-lane_checked.was)) c.lane_of-own.ensures c.write_line.ensures

pub returns-in_err-lane_checked : goal.returns-in_err-lane_checked
returns-in_err-lane_checked c = let refused = write_lane_refused c.args.run c.args.lanes c.args.lane c.args.buffer.now in search (refused, rules)
