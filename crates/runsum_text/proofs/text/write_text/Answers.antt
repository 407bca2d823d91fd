-- `text::write_text` meets its contract: the total is written to what follows the lines of the runs.
use Rattle.runsum_text.proofs.Writing.{total_behind}
use Rattle.runsum_text.proofs.text.write_text.Goals as goal

pub returns : goal.returns
returns c = total_behind _ c.write_runs-n.ensures c.requires.total_value c.write_total.ensures
