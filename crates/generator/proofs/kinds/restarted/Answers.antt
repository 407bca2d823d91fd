-- `generator::kinds::restarted` meets its contract.
use mathlib.Core.Path.{refl}
use Rattle.generator.proofs.Elements.{restarts}
use Rattle.generator.proofs.kinds.restarted.Goals as goal

pub returns : goal.returns
returns c = restarts c.args.g c.requires refl
