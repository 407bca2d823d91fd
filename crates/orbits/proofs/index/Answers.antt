-- `orbits::index` meets its contract: whichever the kind, the least of the indices is the answer; all n places of an element are
-- the element.
use Rattle.sequences.proofs.LowPlaces.{whole_indices}
use Rattle.refusals.proofs.Replies.{number_accepted}
use Rattle.generator.proofs.Refusals.{kind_told}
use Rattle.linear_orbits.proofs.Elements.{reduced}
use Rattle.orbits.proofs.Indices.{index_given}
use Rattle.orbits.proofs.index.Goals as goal

pub returns-in-Linear : goal.returns-in-Linear
returns-in-Linear c =
    let z = number_accepted c.checked.ensures c.in_ok-checked.was in
    let v = kind_told c.kind_of.ensures c.in-Linear.is z in
    rw c.least.ensures (index_given _ _ c.indices.result z (whole_indices (reduced v) _ _ c.indices.result c.indices.ensures))
