-- The format is the width's at each edge.
use Rattle.octets.specs.Served.{Served}
use Rattle.printing.proofs.edges.print_edges.Given as goal

abbrev pub invariant-loop-e : goal.invariant-loop-e
invariant-loop-e g l = Served l.f
