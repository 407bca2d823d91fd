-- `Chains::seen_before` meets its contract: it tells what the walk told, and stores the two entries.
use Rattle.std.proofs.Common.{refl}
use Rattle.chains.proofs.chains.Chains.seen_before.Goals as goal

pub returns-clause-seen : goal.returns-clause-seen
returns-clause-seen c = record { told = c.stand_among-seen.ensures; newest = refl; behind = refl }
