-- `shared::counts::shared_of` meets its contract: both runs are arcs of one circle, or are on different ones.
use mathlib.Core.Path.{subst}
use Rattle.sequences.specs.Occurrences.{IndicesAre}
use Rattle.shared.proofs.Shares.{shared_arcs}
use Rattle.shared.proofs.counts.shared_of.Goals as goal

pub returns : goal.returns
returns c =
    shared_arcs _ _ c.requires ((subst (IndicesAre _ _ _) c.in-Every.is c.indices_of.ensures)) c.place-start.ensures.1
    c.place-other.ensures.1 c.ahead-behind.ensures c.ahead-d.ensures c.common_places.ensures
