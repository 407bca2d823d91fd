-- `output::print_output` is safe and ends: the buffer has room for what is written, and that is within it.
use Rattle.std.proofs.Common.{sym}
use lib.Seq.{length-take-le}
use Rattle.runsum_io.proofs.Deciding.{output_within}
use Rattle.runsum_io.proofs.output.print_output.Goals as goal

pub slice_bounds-buf-end : goal.slice_bounds-buf-end
slice_bounds-buf-end g c = output_within c.write_output-n.ensures

pub slice_bounds-print-end : goal.slice_bounds-print-end
slice_bounds-print-end g c = sym (length-take-le _ _ (output_within c.write_output-n.ensures))
