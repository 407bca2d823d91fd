-- `field::write_digits` meets its contract. The loop's invariant: only the digits of rest, in front of i, lack, or none does.
use Rattle.std.proofs.Common.{◌++◌, take, drop}
use Rattle.decimals.specs.Digits.{digits_of}
use Rattle.decimals.proofs.Writing.{LacksOrNot}
use Rattle.decimals.proofs.field.write_digits.Given as goal

abbrev pub invariant-loop-i : goal.invariant-loop-i
invariant-loop-i l =
    LacksOrNot (take l.at l.initial.buf ++ (digits_of l.v ++ drop l.end l.initial.buf)) l.buf l.at l.i l.rest
