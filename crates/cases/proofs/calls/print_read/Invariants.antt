-- There are no more rows than were asked for.
use Rattle.std.proofs.Common.{◌≤◌}
use Rattle.cases.proofs.calls.print_read.Given as goal

abbrev pub invariant-loop-at : goal.invariant-loop-at
invariant-loop-at l = l.rows ≤ l.at
