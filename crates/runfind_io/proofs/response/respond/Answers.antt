-- `response::respond` meets its contract: there is no question, or the file is read, of which enough is read to decide.
use mathlib.Core.Path.{refl}
use Rattle.archive_io.proofs.Deciding.{answered_none, answered}
use Rattle.runfind_answer.proofs.Deciding.{number_some}
use Rattle.runfind_io.proofs.response.respond.Goals as goal

pub returns-in_default-clause-answered : goal.returns-in_default-clause-answered
returns-in_default-clause-answered g c = answered_none c.asked.ensures c.in_default.is (λ file. refl)

pub returns-clause-answered : goal.returns-clause-answered
returns-clause-answered g c =
    let front = c.of.ensures in
    answered c.asked.ensures c.in-Some.is number_some (rw (front.bytes, front.rest) at c.decide-outcome.ensures)
