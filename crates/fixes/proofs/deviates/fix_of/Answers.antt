-- `fixes::deviates::fix_of` meets its contract: one step from the first element leads to the second, and the width bounds both.
use Prim.Native.Nat.{◌^◌, ◌<◌}
use native.Mathlib.Omega.{arith}
use Rattle.fixes.proofs.Promises.{valid_fix, east_shown, north_shown, shown_below}
use Rattle.fixes.proofs.deviates.fix_of.Goals.{After-next_of-north}
use Rattle.fixes.proofs.deviates.fix_of.Goals as goal

-- of either deviate, whichever element it is made of
below : (c : After-next_of-north) → (c.value_of-east.result < 2 ^ c.args.run.generator.width) × (c.next_of-north.result < 2 ^ c.args.run.generator.width)
below c =
    let v = valid_fix _ _ c.requires in
    let east = c.value_of-east.ensures in
    (shown_below _ v (east_shown _ _ east), shown_below _ v (north_shown _ _ east c.next_of-north.ensures))

pub deviate-requires : goal.deviate-requires
deviate-requires c = ((valid_fix _ _ c.requires).width_high, omega (arith, (below c).0, (below c).1))

pub deviate-requires-2 : goal.deviate-requires-2
deviate-requires-2 c =
    let at = (goal.at.deviate-requires-2 c).After-next_of-north in
    ((valid_fix _ _ c.requires).width_high, omega (arith, (below at).0, (below at).1))
