-- `lines::read_line` meets its contract.
use Rattle.std.proofs.Common.{rules}
use Rattle.refusals.proofs.Replies.{number_accepted}
use Rattle.lines.proofs.Reading.{read_malformed, read_refused, read_accepted}
use Rattle.lines.proofs.read_line.Goals as goal

pub returns-in_default : goal.returns-in_default
returns-in_default c = read_malformed c.in_default.ensures

pub returns-in_err-checked : goal.returns-in_err-checked
returns-in_err-checked c = let refused = read_refused _ c.in-Some.ensures in search (refused, rules)

pub returns : goal.returns
returns c = read_accepted _ c.in-Some.ensures (number_accepted c.checked.ensures c.in_ok-checked.was)
