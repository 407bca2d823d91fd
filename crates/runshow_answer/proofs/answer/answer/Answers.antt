-- `answer::answer` meets its contract: the archive is refused, has no such line, or the line is accepted and its run is read.
use Rattle.std.proofs.Common.{refl, arith}
use Rattle.archive.proofs.Checking.{check_accepted}
use Rattle.archive_line.proofs.PartOfLine.{part_accepted, part_run}
use Rattle.runshow_answer.proofs.Answering.{answer_none, answer_part}
use Rattle.runshow_answer.proofs.answer.answer.Goals as goal

pub returns-in_default-part_of_line : goal.returns-in_default-part_of_line
returns-in_default-part_of_line c =
    let q = c.args.question in
    answer_none c.checked.ensures q.line q.first q.many c.in_default.is c.in_default-part_of_line.ensures.part refl

pub accepted_run-requires : goal.accepted_run-requires
accepted_run-requires c =
    part_accepted c.in-Some.part c.in-Some.ensures.part (check_accepted c.in_default.is c.checked.ensures)
    (λ z. omega (arith, z, c.in-Some.ensures.some))

pub returns : goal.returns
returns c =
    let q = c.args.question in
    answer_part c.checked.ensures q.line q.first q.many c.in_default.is
    (part_run c.in-Some.part c.in-Some.ensures.part (check_accepted c.in_default.is c.checked.ensures)
    (λ z. omega (arith, z, c.in-Some.ensures.some)) c.accepted_run.ensures)
    c.part_of_run.ensures
