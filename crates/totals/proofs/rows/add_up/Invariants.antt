-- `add_up`: what is still to be added is what the rows from the next on add. Assumes nothing.
use Rattle.std.proofs.Common.{take}
use Rattle.totals.specs.Rows.{value_at, is_marked}
use Rattle.totals.proofs.Adding.{Adding}
use Rattle.totals.proofs.rows.add_up.Given as goal

abbrev pub invariant-loop-number : goal.invariant-loop-number
invariant-loop-number l = Adding (value_at l.bytes l.before l.table) (is_marked l.marks) (take l.count l.rows) l.number-index l.shown l.unshown
