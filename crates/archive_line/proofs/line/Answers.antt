-- `archive_line::line` meets its contract: the part, by its start and its length, is the line itself.
use Rattle.archive_line.proofs.PartOfLine.{line_of_part}
use Rattle.archive_line.proofs.line.Goals as goal

pub returns : goal.returns
returns c = let p = c.line_part-part in line_of_part _ p.ensures
