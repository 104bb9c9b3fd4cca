-- `partners::edges::group_from`: the edges of the entries so far are put. Assumes nothing.
use Rattle.partners.proofs.Groups.{Filling}
use Rattle.partners.proofs.edges.group_from.Given as goal

abbrev pub invariant-loop-e : goal.invariant-loop-e
invariant-loop-e l = Filling l.shape l.first l.e l.bounds l.over l.own
