-- `chains::hash::slot` meets its contract: the hash so far, over the numbers left, is the hash of all.
use Rattle.std.proofs.Common.{◌≡◌, drop}
use Rattle.chains.specs.Hash.{hash_from}
use Rattle.chains.proofs.hash.slot.Given as goal

abbrev pub invariant-loop-number : goal.invariant-loop-number
invariant-loop-number l = hash_from 0 l.numbers ≡ hash_from l.h (drop l.number-index l.numbers)
