-- `affine::four_rounds` meets its contract.
use Rattle.affine.specs.Trace.{none, next}
use Rattle.affine.proofs.four_rounds.Goals as goal

pub returns : goal.returns
returns c =
    next (next (next (next none c.round.ensures) c.round-2.ensures) c.round-3.ensures)
    c.round-4.ensures
