-- `output::write_answer` meets its contract: each case is what the function called for it writes.
use Rattle.runsum_io.proofs.Deciding.{text_asked, text_told, refusal_told}
use Rattle.runsum_io.proofs.output.write_answer.Goals as goal

pub write_text-requires-clause-archive_value : goal.write_text-requires-clause-archive_value
write_text-requires-clause-archive_value c = (text_asked c.summary.result c.summary.ensures c.in-Ok.is c.requires).0

pub write_text-requires-clause-archive_in_bounds : goal.write_text-requires-clause-archive_in_bounds
write_text-requires-clause-archive_in_bounds c = (text_asked c.summary.result c.summary.ensures c.in-Ok.is c.requires).1.1

pub returns-in-Ok : goal.returns-in-Ok
returns-in-Ok c = text_told c.summary.result c.summary.ensures c.in-Ok.is c.write_text.ensures

pub returns-in-Err : goal.returns-in-Err
returns-in-Err c = refusal_told c.summary.result c.summary.ensures c.in-Err.is c.number.ensures c.write_notice.ensures
