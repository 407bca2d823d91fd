-- `archive::checked` meets its contract: an archive that is too long is refused, and any other by its lines.
use Rattle.archive.proofs.TwinRefusal.{check_long}
use Rattle.archive.proofs.checked.Goals as goal

pub returns-then-archive-gt65536 : goal.returns-then-archive-gt65536
returns-then-archive-gt65536 c = check_long c.if-archive-gt65536.true
