-- `affine::jump` meets its contract: nothing to do, or the rounds from the start.
use Rattle.affine.proofs.Trace.{performed_now, jumps}
use Rattle.affine.proofs.jump.Goals as goal

pub returns-then-i-eq0 : goal.returns-then-i-eq0
returns-then-i-eq0 c = jumps (performed_now _ c.if-i-eq0.true)

pub returns : goal.returns
returns c = jumps c.finish.ensures
