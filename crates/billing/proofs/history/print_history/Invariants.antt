-- No more folders are refused than were taken in.
use Rattle.std.proofs.Common.{◌≤◌}
use Rattle.billing.proofs.history.print_history.Given as goal

abbrev pub invariant-loop-i : goal.invariant-loop-i
invariant-loop-i g l = l.refused ≤ l.i
