-- `field::read_field` meets its contract: the slice ends at the index, or no digit stands there, or the digit there is read
-- and `read_on` finds the rest.
use Rattle.std.proofs.Common.{sym, subst, arith}
use Rattle.decimals.specs.Field.{FieldOf}
use Rattle.decimals.proofs.Reading.{first_digit, no_digit}
use Rattle.decimals.proofs.field.read_field.Goals as goal

pub returns-in_err-get : goal.returns-in_err-get
returns-in_err-get c =
    let none = c.in_err-get.ensures.lookup.3 in
    subst (FieldOf _ _ _) (sym c.from_residual.ensures) (no_digit _ c.args.at _ (λ h. absurd (omega arith)))

pub returns-in_err-first : goal.returns-in_err-first
returns-in_err-first c =
    let is = c.in_ok-get.ensures.lookup.3.1 0 in
    subst (FieldOf _ _ _) (sym c.from_residual-in_err-first.ensures)
    (no_digit _ c.args.at _ (λ h. grind (arith, c.in_err-first.ensures, is)))

pub returns : goal.returns
returns c =
    let a = c.args in
    let is = c.in_ok-get.ensures.lookup.3 in
    let first = c.in_ok-first.ensures in
    rw (first_digit a.s.now a.at c.in_ok-first.first is.0 (omega (arith, is.1 0)) (omega arith)) c.read_on.ensures
