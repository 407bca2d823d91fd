-- `chains::hash::slot` meets its contract: the hash so far, over the numbers left, is the hash of all.
use Rattle.std.proofs.Common.{refl, ◌∙◌}
use Rattle.chains.proofs.Hashing.{hash_next, hash_end, slot_is}
use Rattle.chains.proofs.hash.slot.Goals as goal

pub loop-number-preserved : goal.loop-number-preserved
loop-number-preserved c =
    hash_next c.args.numbers.now c.loop-number.h c.loop-number.invariant c.loop-number-test.true refl c.wrapping_mul-h.ensures

pub returns : goal.returns
returns c =
    slot_is c.args.numbers.now c.args.slots (c.loop-number.invariant ∙ hash_end _ _ c.loop-number-test.false)
