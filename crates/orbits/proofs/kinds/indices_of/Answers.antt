-- `orbits::kinds::indices_of` meets its contract: each kind has its own, and all n places of an element are the element.
use Rattle.std.proofs.Common.{le_refl}
use Rattle.sequences.proofs.LowPlaces.{whole_indices}
use Rattle.generator.proofs.Refusals.{kind_told}
use Rattle.linear_orbits.proofs.Elements.{reduced}
use Rattle.orbits.proofs.kinds.indices_of.Goals as goal

pub indices-requires : goal.indices-requires
indices-requires c =
    let v = kind_told c.kind_of.ensures c.in-Linear.is c.requires in (v, v.width_low, le_refl _)

pub indices-requires-in-Prime : goal.indices-requires-in-Prime
indices-requires-in-Prime c =
    kind_told c.kind_of.ensures c.in-Prime.is c.requires

pub returns-in-Linear : goal.returns-in-Linear
returns-in-Linear c =
    let v = kind_told c.kind_of.ensures c.in-Linear.is c.requires in
    whole_indices (reduced v) _ _ c.indices.result c.indices.ensures
