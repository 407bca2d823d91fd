-- `round_trip::round_trip` meets its contract, by the promises of the two calls alone.
use Rattle.std.specs.Prelude.{Ok, Err}
use Rattle.std.proofs.Common.{rules, arith}
use Rattle.lines.proofs.RoundTrip.{write_as, write_refusal_lem, written_back}
use Rattle.round_trip.proofs.round_trip.Goals as goal

pub returns-in_err-n : goal.returns-in_err-n
returns-in_err-n c =
    let refused = write_refusal_lem c.in_err-n.field-0.0 (write_as (Err _) c.in_err-n.was c.write_line.ensures) (omega arith) in
    search (refused, rules)

pub returns : goal.returns
returns c = written_back (write_as (Ok _) c.in_ok-n.was c.write_line.ensures) c.read_line.ensures
