-- `lines::accepted::accepted_run` meets its contract: the bytes are a line, so the numbers read are those of its run.
use mathlib.Core.Path.{refl}
use Rattle.lines.proofs.Reading.{read_known}
use Rattle.lines.proofs.accepted.accepted_run.Goals as goal

pub returns : goal.returns
returns c =
    read_known c.read.ensures refl c.requires c.run_of.ensures
