-- `affine::rounds_on` meets its contract: each turn of the loop makes four rounds more.
use Rattle.affine.specs.Trace.{none}
use Rattle.affine.proofs.Trace.{onward_add}
use Rattle.affine.proofs.rounds_on.Goals as goal

pub loop-init : goal.loop-init
loop-init c = record { rounds = 0; rounded = none }

pub loop-preserved : goal.loop-preserved
loop-preserved c = onward_add c.loop.invariant c.four_rounds-p.ensures

pub returns-then-p-eq0 : goal.returns-then-p-eq0
returns-then-p-eq0 c = onward_add c.loop.invariant c.four_rounds-p.ensures
