-- `decision::decide` meets its contract: an archive that is too long is refused whatever follows.
use Rattle.archive_io.proofs.Deciding.{decided_read}
use Rattle.runshow_answer.proofs.Answering.{too_long}
use Rattle.runshow_answer.proofs.decision.decide.Goals as goal

pub returns : goal.returns
returns c =
    let readable = rw c.in_ok-bytes.ensures.ok_part at c.readable.ensures in
    decided_read _ (too_long _ _ _) readable c.args.archive.full c.requires.in_bounds c.answer.ensures
