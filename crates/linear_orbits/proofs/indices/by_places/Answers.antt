-- `linear_orbits::indices::by_places` meets its contract: read off what the search settled.
use Rattle.std.proofs.Common.{arith}
use Rattle.sequences.proofs.LowPlaces.{low_never}
use Rattle.linear_orbits.proofs.LinearIndices.{settled_every}
use Rattle.linear_orbits.proofs.indices.by_places.Goals as goal

pub returns-then-found-places : goal.returns-then-found-places
returns-then-found-places c =
    low_never _ c.settled-found.ensures (omega (arith, c.requires.2, c.if-found-places.true)) c.if-found-places.true

pub returns : goal.returns
returns c =
    settled_every c.requires c.settled-found.ensures c.if-found-places.false c.ones.ensures
