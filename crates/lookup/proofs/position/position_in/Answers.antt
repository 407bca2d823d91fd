-- `lookup::position::position_in` meets its contract: the least index from the run's first element on, if that is a position.
use Rattle.std.proofs.Common.{rules}
use Rattle.lookup.proofs.PositionInRun.{position_kept}
use Rattle.lookup.proofs.position.position_in.Goals as goal

pub returns : goal.returns
returns c =
    position_kept _ c.from_first.ensures c.args.y _ _ _ c.indices_of.ensures c.least-least.ensures (λ x b q. search rules) c.filter.ensures
