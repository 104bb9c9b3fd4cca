-- `labels::put_next` meets its contract. Assumes nothing.
use Rattle.indexes.specs.Labels.{NextAlike}
use Rattle.indexes.proofs.Filled.{Placing}
use Rattle.indexes.proofs.labels.put_next.Given as goal

abbrev pub invariant-loop-i : goal.invariant-loop-i
invariant-loop-i l = Placing (NextAlike l.rows l.levels l.labels) l.rows l.fn.next l.next l.i
