-- `orbits::kinds::low_indices_of` meets its contract: a generator that has places is of the linear kind.
use Rattle.std.proofs.Common.{le_trans}
use Rattle.generator.proofs.Refusals.{linear_kind, accepted_kind}
use Rattle.orbits.proofs.kinds.low_indices_of.Goals as goal

pub indices-requires : goal.indices-requires
indices-requires c =
    let g = c.args.g in
    (accepted_kind g (linear_kind g (le_trans c.requires.1 c.requires.2)) c.requires.0, c.requires.1, c.requires.2)
