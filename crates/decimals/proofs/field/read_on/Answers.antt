-- `field::read_on` meets its contract. The loop's invariant: the bytes of the field are the digits of number, which fits, and
-- what stands at i of the bytes from `from` on. Each way out is a law of `Reading`.
use Rattle.std.proofs.Common.{rules, sym, subst, arith}
use Rattle.decimals.specs.Field.{FieldOf}
use Rattle.decimals.proofs.Reading.{number_read, read_first, field_behind, no_delimiter, digit_read, no_number}
use Rattle.decimals.proofs.field.read_on.Goals as goal

pub loop-i-init : goal.loop-i-init
loop-i-init c = read_first c.args.s.now c.args.from c.args.first (search rules)

pub returns-then-b-delimiter : goal.returns-then-b-delimiter
returns-then-b-delimiter c =
    field_behind c.args.from c.requires.from_in_bounds (omega arith)
    (number_read c.loop-i.invariant _ c.loop-i-test.true c.if-b-delimiter.true)

pub returns-in_default : goal.returns-in_default
returns-in_default c =
    no_delimiter c.loop-i.invariant _ c.requires.delimiter_below_digits
    (λ h. (grind (arith, c.in_default.ensures), c.if-b-delimiter.false))

pub returns-in_err-number : goal.returns-in_err-number
returns-in_err-number c =
    subst (FieldOf _ _ _) (sym c.from_residual.ensures)
    (no_number c.loop-i.invariant c.in-Some.d c.loop-i-test.true
    (omega (arith, c.in-Some.ensures)) (omega (arith, c.in-Some.ensures)) _ c.requires.delimiter_below_digits
    (grind (arith, c.in_err-number.ensures)))

pub loop-i-preserved : goal.loop-i-preserved
loop-i-preserved c =
    let more = c.in_ok-number.ensures in
    digit_read c.loop-i.invariant c.in-Some.d c.loop-i-test.true
    (omega (arith, c.in-Some.ensures)) (omega (arith, c.in-Some.ensures)) _ more.0.0 more.1 (omega arith)

pub returns : goal.returns
returns c =
    no_delimiter c.loop-i.invariant _ c.requires.delimiter_below_digits (λ h. absurd (omega (arith, c.loop-i-test.false)))
