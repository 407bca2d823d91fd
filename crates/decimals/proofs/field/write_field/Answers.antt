-- `field::write_field` meets its contract: the delimiter is stored behind the room for the digits, and then the digits in front.
use native.Mathlib.Omega.{arith}
use lib.ListN.{length-set}
use Rattle.decimals.proofs.Writing.{delimiter_written}
use Rattle.decimals.proofs.field.write_field.Goals as goal

pub write_digits-requires : goal.write_digits-requires
write_digits-requires c = simp length-set (omega arith)

pub returns : goal.returns
returns c =
    let a = c.args in
    delimiter_written a.buf.now _ a.at _ a.v a.delimiter (omega arith) (omega arith) c.write_digits.ensures
