-- `field::write_digits` meets its contract. The loop's invariant: only the digits of rest, in front of i, lack, or none does.
use Rattle.decimals.proofs.Writing.{digit_written}
use Rattle.decimals.proofs.field.write_digits.Goals as goal

pub loop-i-preserved : goal.loop-i-preserved
loop-i-preserved c = digit_written (c.loop-i.invariant.some c.loop-i-test.true)
