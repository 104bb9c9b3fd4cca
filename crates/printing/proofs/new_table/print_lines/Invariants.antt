-- The format is the width's at each line, and the lines so far had sources.
use Rattle.std.specs.Prelude.{◌≤◌, length}
use Rattle.octets.specs.Served.{Served}
use Rattle.printing.proofs.new_table.print_lines.Given as goal

abbrev pub invariant-loop-at : goal.invariant-loop-at
invariant-loop-at g l = Served l.f × (l.at ≤ length l.sources)
