-- `low_places::index_places` meets its contract.
use Rattle.std.proofs.Common.{subst}
use Rattle.sequences.specs.Occurrences.{IndicesAre}
use Rattle.refusals.proofs.Replies.{number_accepted}
use Rattle.low_places.proofs.Places.{places_every}
use Rattle.low_places.proofs.index_places.Goals as goal

pub returns-in-Every : goal.returns-in-Every
returns-in-Every c =
    places_every _ _ _ (number_accepted c.places_checked.ensures c.in_ok-places_checked.was)
    (subst (IndicesAre _ _ _) c.in-Every.is c.low_indices_of.ensures) c.exponent_of.ensures
