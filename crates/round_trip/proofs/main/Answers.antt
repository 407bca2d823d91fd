-- `round_trip::main` meets its contract: what `round_trip` ensures of an accepted run shows each check.
use Rattle.std.proofs.Common.{sym, ap, ◌∙◌}
use Rattle.generator.specs.Recurrence.{modulus}
use Rattle.generator.specs.Check.{refusal_of}
use Rattle.refusals.proofs.Replies.{number_nonzero}
use Rattle.runs.specs.Run.{run_refusal}
use Rattle.lines.specs.declared.RunReply.{RunReply}
use Rattle.lines.specs.ReadLine.{plain_run}
use Rattle.round_trip.proofs.main.Goals as goal

pub expect-requires : goal.expect-requires
unfolding run_refusal refusal_of modulus
expect-requires c =
    absurd
    (number_nonzero c.in_default.field-0
    (ap (λ (r : RunReply). r.refusal) (sym (ap plain_run c.in_default.is) ∙ c.round_trip.ensures)))
