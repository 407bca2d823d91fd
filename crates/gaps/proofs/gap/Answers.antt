-- `gaps::gap` meets its contract: where both numbers recur, the steps are those between their indices; otherwise one is absent.
use mathlib.Core.Path.{subst}
use mathlib.Core.Logic.{inl, inr}
use native.Mathlib.Omega.{arith}
use Rattle.sequences.specs.Occurrences.{IndicesAre}
use Rattle.refusals.proofs.Replies.{number_accepted}
use Rattle.gaps.proofs.Gaps.{gap_missing, gap_counted, every_located, other_absent, period_last}
use Rattle.gaps.proofs.gap.Goals as goal

pub ahead-d-requires : goal.ahead-d-requires
ahead-d-requires c =
    let z = (number_accepted c.gap_checked.ensures c.in_ok-gap_checked.was) in
    omega (
      arith,
      (every_located _ z _ _ _ ((subst (IndicesAre _ _ _) c.in-Every.is c.indices_of.ensures))).1.below,
      (every_located _ z _ _ _ ((subst (IndicesAre _ _ _) c.in-Every-indices_of.is c.indices_of-2.ensures))).1.below,
      period_last _ z _ _ _ ((subst (IndicesAre _ _ _) c.in-Every.is c.indices_of.ensures)),
      period_last _ z _ _ _ ((subst (IndicesAre _ _ _) c.in-Every-indices_of.is c.indices_of-2.ensures)),
    )

pub returns : goal.returns
returns c =
    gap_counted _ _ _ _ _ _ _ ((number_accepted c.gap_checked.ensures c.in_ok-gap_checked.was)) ((subst (IndicesAre _ _ _) c.in-Every.is c.indices_of.ensures))
    ((subst (IndicesAre _ _ _) c.in-Every-indices_of.is c.indices_of-2.ensures)) c.ahead-d.ensures c.signed.ensures

pub returns-in_default : goal.returns-in_default
returns-in_default c =
    let z = (number_accepted c.gap_checked.ensures c.in_ok-gap_checked.was) in
    gap_missing _ _ _ z (inl (other_absent _ z _ c.indices_of.result c.in_default.not-Every c.indices_of.ensures))

pub returns-in_default-indices_of : goal.returns-in_default-indices_of
returns-in_default-indices_of c =
    let z = (number_accepted c.gap_checked.ensures c.in_ok-gap_checked.was) in
    gap_missing _ _ _ z (inr (other_absent _ z _ c.indices_of-2.result c.in_default-indices_of.not-Every c.indices_of-2.ensures))
