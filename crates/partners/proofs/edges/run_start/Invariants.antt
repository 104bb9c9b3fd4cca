-- `partners::edges::run_start`: the rows passed are of the run. Assumes nothing.
use Rattle.std.proofs.Common.{◌≡◌, ◌-◌, ◌≤◌}
use Rattle.closest.specs.Runs.{start_of}
use Rattle.partners.proofs.edges.run_start.Given as goal

abbrev pub invariant-loop-i : goal.invariant-loop-i
invariant-loop-i l = (1 ≤ l.i) × (start_of l.levels l.l (l.i - 1) ≡ start_of l.levels l.l l.row)
