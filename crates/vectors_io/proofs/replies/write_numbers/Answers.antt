-- `replies::write_numbers` meets its contract: a line has at most 21 bytes for each number.
use native.Mathlib.Omega.{arith}
use lib.ListN.{length-take, length-drop}
use Rattle.fields.proofs.Codec.{line_bound}
use Rattle.vectors_io.proofs.replies.write_numbers.Goals as goal

pub write-requires : goal.write-requires
write-requires c = simp (length-take, length-drop) (omega (arith, line_bound c.args.numbers.now (λ i l. omega (arith, c.type_inv.numbers i))))

pub overflow_add-result : goal.overflow_add-result
overflow_add-result c =
    omega (arith, line_bound c.args.numbers.now (λ i l. omega (arith, c.type_inv.numbers i)), c.write.ensures.count, c.requires)

pub returns : goal.returns
returns c = omega (arith, line_bound c.args.numbers.now (λ i l. omega (arith, c.type_inv.numbers i)), c.write.ensures.count)
