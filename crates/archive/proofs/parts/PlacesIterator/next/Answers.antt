-- The `next` of the places meets its contract: the place of the first part left, and those behind it.
use mathlib.Core.Path.{ap}
use native.Mathlib.Omega.{arith}
use lib.ListN.{length}
use Rattle.archive.proofs.Walking.{place_first, place_none}
use Rattle.archive.proofs.parts.PlacesIterator.next.Goals as goal

pub returns-then-start-self-clause-steps : goal.returns-then-start-self-clause-steps
returns-then-start-self-clause-steps c = let none = place_none _ c.if-start-self.true in (none, none)

pub returns-clause-steps : goal.returns-clause-steps
returns-clause-steps c = place_first _ c.if-start-self.false c.part_end-end.ensures

pub returns-clause-goes : goal.returns-clause-goes
returns-clause-goes c =
    let first = place_first _ c.if-start-self.false c.part_end-end.ensures in
    record { on = λ f. (tt, f, omega (arith, ap length first)); keeps = tt; rests = λ f. tt }
