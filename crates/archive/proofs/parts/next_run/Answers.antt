-- `archive::parts::next_run` meets its contract: the part read is the line, which is accepted.
use Rattle.archive.proofs.Splitting.{part_within}
use Rattle.archive.proofs.Runs.{run_reads, run_read}
use Rattle.archive.proofs.parts.next_run.Goals as goal

pub slice_bounds-accepted_run-end : goal.slice_bounds-accepted_run-end
slice_bounds-accepted_run-end c = (part_within _ c.requires.at_in_bounds c.part_end-end.ensures).1

pub accepted_run-requires : goal.accepted_run-requires
accepted_run-requires c =
    run_reads _ c.requires.at_in_bounds c.requires.archive_value c.part_end-end.ensures

pub returns : goal.returns
returns c =
    run_read _ c.requires.at_in_bounds c.requires.archive_value c.part_end-end.ensures c.accepted_run.ensures
