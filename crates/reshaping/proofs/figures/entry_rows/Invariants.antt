-- `entry_rows`: of the rows passed those of the type are counted. Assumes nothing.
use Rattle.std.proofs.Common.{◌≡◌, ◌≤◌}
use Rattle.reshaping.specs.Figures.{held_by, different_in}
use Rattle.reshaping.proofs.figures.entry_rows.Given as goal

abbrev pub invariant-loop-i : goal.invariant-loop-i
invariant-loop-i l = record {
  held_few : l.held ≤ l.i;
  different_few : l.different ≤ l.i;
  held_is : l.held ≡ held_by l.types l.i l.k;
  different_is : l.different ≡ different_in l.types l.i l.k l.shows l.e;
}
