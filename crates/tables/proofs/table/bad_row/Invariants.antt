-- `table::bad_row`: the rows before row i keep the rules. Assumes nothing.
use Rattle.tables.proofs.Rows.{Search}
use Rattle.tables.proofs.table.bad_row.Given as goal

abbrev pub invariant-loop-i : goal.invariant-loop-i
invariant-loop-i l = Search l.f l.table l.i
