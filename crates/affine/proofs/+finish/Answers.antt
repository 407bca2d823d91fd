-- `affine::finish` meets its contract: with no index left after 4 or 8 rounds or after those that follow, all is done; otherwise it
-- goes on with what these leave. The measure is the index left.
use Rattle.std.proofs.Common.{arith}
use Rattle.affine.proofs.Trace.{rounded_rounds, rounded_within, rounded_add, performed_now, performed_later}
use Rattle.affine.proofs.+finish.Goals as goal

pub returns-then-p4-eq0 : goal.returns-then-p4-eq0
returns-then-p4-eq0 t c =
    performed_later c.four_rounds-p4.ensures (performed_now _ c.if-p4-eq0.true)

pub returns-then-p8-eq0 : goal.returns-then-p8-eq0
returns-then-p8-eq0 t c =
    performed_later (rounded_add c.four_rounds-p4.ensures c.four_rounds-p8.ensures) (performed_now _ c.if-p8-eq0.true)

pub returns-then-p-eq0 : goal.returns-then-p-eq0
returns-then-p-eq0 t c =
    performed_later (rounded_add c.four_rounds-p4.ensures c.four_rounds-p8.ensures)
    (performed_later c.rounds_on-p.ensures.rounded (performed_now _ c.if-p-eq0.true))

-- what is left is not 0, and no more than what 8 rounds leave
pub finish-rest-requires : goal.finish-rest-requires
finish-rest-requires t c = (
  omega (
    arith,
    rounded_within c.rounds_on-p.ensures.rounded,
    (rounded_rounds (rounded_add c.four_rounds-p4.ensures c.four_rounds-p8.ensures)).left,
    c.if-p-eq0.false,
  ),
  tt,
)

pub returns : goal.returns
returns t c =
    performed_later (rounded_add c.four_rounds-p4.ensures c.four_rounds-p8.ensures)
    (performed_later c.rounds_on-p.ensures.rounded c.finish-rest.ensures)
