-- `count_rows`: so many of the rows so far are of the type. Assumes nothing.
use lib.ListN.{take}
use Rattle.closest.proofs.Counts.{Counting}
use Rattle.closest.proofs.count_rows.Given as goal

abbrev pub invariant-loop-i : goal.invariant-loop-i
invariant-loop-i l = Counting (take l.rows l.types) l.k l.c l.i
