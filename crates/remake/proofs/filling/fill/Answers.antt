-- `remake::filling::fill` meets its contract. The loop's invariant: as many numbers as places passed stand at the buffer's front,
-- and `number` is the one that comes next.
use Rattle.std.proofs.Common.{rules}
use Rattle.runs.specs.Run.{shows}
use Rattle.remake.proofs.Remakes.{is_element, remake_start, remake_next, remake_whole}
use Rattle.remake.proofs.filling.fill.Goals as goal

pub loop-place-init : goal.loop-place-init
unfolding shows
loop-place-init c = remake_start _ _ _ c.value_of-number.ensures

pub next_of-next-requires : goal.next_of-next-requires
next_of-next-requires c = (c.requires.generator_value, is_element c.loop-place.invariant)

pub loop-place-preserved : goal.loop-place-preserved
loop-place-preserved c =
    remake_next c.loop-place.invariant (search rules) c.next_of-next.ensures

pub returns : goal.returns
returns c =
    remake_whole c.args.numbers.now c.requires.n_in_bounds c.loop-place.invariant c.loop-place-test.false c.loop-place.auto.place-index-end
