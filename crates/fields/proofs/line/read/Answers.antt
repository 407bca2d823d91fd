-- `line::read` meets its contract: the loop's invariant is `ReadSoFar`, and each way out is one law.
use mathlib.Core.Path.{subst}
use Prim.Native.Nat.{◌-◌}
use lib.ListN.{length}
use Rattle.decimals.specs.Field.{FieldOf}
use Rattle.fields.proofs.Numbers.{delimiter_under}
use Rattle.fields.proofs.Codec.{read_start, read_next, read_none, read_end}
use Rattle.fields.proofs.line.read.Goals as goal

pub loop-k-init : goal.loop-k-init
loop-k-init c = read_start _ _

pub read_field-requires : goal.read_field-requires
read_field-requires c =
    delimiter_under (length c.args.numbers.now - c.loop-k.k - 1) c.delimiter_before.ensures

pub returns-in_default : goal.returns-in_default
returns-in_default c =
    read_none c.loop-k.invariant c.loop-k-test.true c.delimiter_before.ensures
    (subst (FieldOf _ _ _) c.in_default.is c.read_field.ensures)

pub loop-k-preserved : goal.loop-k-preserved
loop-k-preserved c =
    read_next c.loop-k.invariant c.loop-k-test.true c.delimiter_before.ensures
    (subst (FieldOf _ _ _) c.in-Some.is c.read_field.ensures)

pub returns : goal.returns
returns c = read_end c.loop-k.invariant c.loop-k-test.false
