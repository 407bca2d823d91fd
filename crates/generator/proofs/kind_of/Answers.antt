-- `generator::kind_of` meets its contract: what it finds is the kind, and the refusal table says what that asks for.
use mathlib.Core.Path.{ap}
use native.Mathlib.Omega.{arith}
use Rattle.generator.specs.Recurrence.{kind_at}
use Rattle.generator.proofs.Refusals.{linear_kind, kind_is}
use Rattle.generator.proofs.kind_of.Goals as goal

pub returns-then-g-eq0 : goal.returns-then-g-eq0
returns-then-g-eq0 c = kind_is (ap kind_at c.if-g-eq0.true)

pub returns : goal.returns
returns c = kind_is (linear_kind c.args.g (omega (arith, c.if-g-eq0.false)))
