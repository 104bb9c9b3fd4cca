-- `last::put_last` meets its contract. Assumes nothing.
use mathlib.Core.Path.{◌≡◌}
use lib.ListN.{length}
use Rattle.indexes.proofs.Ends.{Ends, Putting}
use Rattle.indexes.proofs.last.put_last.Given as goal

abbrev pub invariant-loop-i : goal.invariant-loop-i
invariant-loop-i l = (length l.ends ≡ 9) × Ends l.rows l.levels l.ends l.behind l.i × Putting l.rows l.levels l.fn.last l.last l.i
