-- `customary::table::multipliers` meets its contract: the table's rule is one test that antt computes over it.
use mathlib.Core.Path.{refl}
use Rattle.sequences.specs.Least.{least}
use Rattle.customary.specs.Customary.{odd_power, customary_of}
use Rattle.customary.proofs.OddPowers.{table_rule}
use Rattle.customary.proofs.table.multipliers.Goals as goal

pub returns : goal.returns
unfolding customary_of odd_power least
returns c = table_rule tt refl
