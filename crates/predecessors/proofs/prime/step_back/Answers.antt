-- `predecessors::prime::step_back` meets its contract.
use Rattle.predecessors.proofs.StepBack.{prime_steps_back}
use Rattle.predecessors.proofs.prime.step_back.Goals as goal

pub returns : goal.returns
returns c = prime_steps_back c.requires c.previous.ensures
