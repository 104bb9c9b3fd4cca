-- `children_range`: the walk along the rows' type numbers. Assumes nothing.
use lib.ListN.{take}
use Rattle.adorned.proofs.Walks.{Walk}
use Rattle.adorned.proofs.children_range.Given as goal

abbrev pub invariant-loop-i : goal.invariant-loop-i
invariant-loop-i l = Walk (take l.rows l.types) l.p l.k l.r l.c l.i
