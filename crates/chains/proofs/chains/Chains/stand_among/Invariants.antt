-- `Chains::stand_among` meets its contract: the links from the one looked at on decide.
use Rattle.chains.proofs.Walking.{Walk}
use Rattle.chains.proofs.chains.Chains.stand_among.Given as goal

abbrev pub invariant-loop-start : goal.invariant-loop-start
invariant-loop-start l =
    Walk l.bytes l.self.next.now l.at l.n l.first l.link

abbrev pub decreases-loop-start : goal.decreases-loop-start
decreases-loop-start l = l.link
