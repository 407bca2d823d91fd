-- `archive_line::line_part` meets its contract: where the check refuses, the part is the empty one.
use Rattle.archive_line.proofs.PartOfLine.{part_refused}
use Rattle.archive_line.proofs.line_part.Goals as goal

pub returns-then-is_err : goal.returns-then-is_err
returns-then-is_err c = part_refused _ _ _ c.is_err.ensures.value c.if-is_err.true c.checked.ensures
