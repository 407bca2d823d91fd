-- `linear_orbits::indices::indices` meets its contract.
use Rattle.std.proofs.Common.{sym, ◌∙◌, leb-true}
use Rattle.sequences.proofs.LowPlaces.{low_reduced, reduced_absent}
use Rattle.linear_orbits.proofs.indices.indices.Goals as goal

pub returns-then-exceeds : goal.returns-then-exceeds
returns-then-exceeds c = reduced_absent (low_reduced _ _) (leb-true _ _ (sym c.exceeds.ensures ∙ c.if-exceeds.true))
