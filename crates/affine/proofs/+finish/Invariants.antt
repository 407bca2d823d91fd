-- Each call of `finish` from `finish` has less of the index left.
use Rattle.affine.proofs.+finish.Given as goal

abbrev pub decreases-finish : goal.decreases-finish
decreases-finish l = l.left
