-- `affine::compose` meets its contract.
use Rattle.affine.proofs.Walking.{composed}
use Rattle.affine.proofs.compose.Goals as goal

pub returns : goal.returns
returns c =
    let a = c.args in
    composed a.first a.second _ c.wrapping_mul-factor.ensures c.value_at-offset.ensures
