use Rattle.partners.proofs.Groups.{Halves}
use Rattle.partners.proofs.edges.spread.Given as goal

abbrev pub invariant-loop-e : goal.invariant-loop-e
invariant-loop-e l = Halves l.low l.high l.e l.all
