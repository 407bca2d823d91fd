-- `field::read_on` meets its contract. The loop's invariant: the bytes of the field are the digits of number, which fits, and
-- what stands at i of the bytes from `from` on. Each way out is a law of `Reading`.
use Rattle.std.proofs.Common.{◌++◌, drop}
use Rattle.decimals.specs.Digits.{digits_of}
use Rattle.decimals.proofs.Reading.{ReadUpTo, from_on}
use Rattle.decimals.proofs.field.read_on.Given as goal

abbrev pub invariant-loop-i : goal.invariant-loop-i
invariant-loop-i l = ReadUpTo (digits_of l.first ++ drop l.from l.s) (from_on l.s l.from) l.number l.i
