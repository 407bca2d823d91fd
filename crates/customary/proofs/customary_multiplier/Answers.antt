-- `customary::customary_multiplier` meets its contract.
use Rattle.customary.proofs.OddPowers.{customary_given}
use Rattle.customary.proofs.customary_multiplier.Goals as goal

pub returns : goal.returns
returns c = customary_given c.if-width-lt3.false c.if-width-gt64.false c.multiplier.ensures
