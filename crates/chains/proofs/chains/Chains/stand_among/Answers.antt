-- `Chains::stand_among` meets its contract: the links from the one looked at on decide.
use Rattle.chains.proofs.Walking.{walk_here, walk_next, walk_end}
use Rattle.chains.proofs.chains.Chains.stand_among.Goals as goal

pub returns-then-eq : goal.returns-then-eq
returns-then-eq c =
    walk_here c.loop-start.invariant c.requires.falling c.requires.n_in_bounds c.in-Some.ensures c.eq.ensures c.if-eq.true

pub loop-start-preserved : goal.loop-start-preserved
loop-start-preserved c =
    walk_next c.loop-start.invariant c.requires.falling c.requires.n_in_bounds c.in-Some.ensures c.eq.ensures c.if-eq.false

pub returns : goal.returns
returns c = walk_end c.loop-start.invariant c.in_default.ensures
