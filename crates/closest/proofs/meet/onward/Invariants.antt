-- `meet::onward`: place by place, how deep the row meets the wanted type. Assumes nothing.
use lib.ListN.{get_or}
use Rattle.paper.specs.Format.{most_entries}
use Rattle.closest.specs.Deepest.{onward}
use Rattle.closest.proofs.Filled.{Filled}
use Rattle.closest.proofs.meet.onward.Given as goal

abbrev pub invariant-loop-e : goal.invariant-loop-e
invariant-loop-e l = Filled (λ j. onward l.k (get_or l.wanted j 0) l.l (get_or l.near j 0)) 0 most_entries l.e l.on
