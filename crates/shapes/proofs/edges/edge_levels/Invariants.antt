-- `edges::edge_levels`: the edges so far have their levels. Assumes nothing.
use lib.ListN.{get_or}
use Rattle.paper.specs.Format.{most_entries}
use Rattle.closest.proofs.Filled.{Filled}
use Rattle.shapes.specs.Edges.{meeting_of}
use Rattle.shapes.proofs.edges.edge_levels.Given as goal

abbrev pub invariant-loop-c : goal.invariant-loop-c
invariant-loop-c l = Filled (λ e. meeting_of l.meetings l.types (get_or l.parents e 0) e) 0 most_entries l.c l.edges
