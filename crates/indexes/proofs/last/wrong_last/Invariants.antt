-- `last::wrong_last` meets its contract. Assumes nothing.
use mathlib.Core.Path.{◌≡◌}
use lib.ListN.{length}
use Rattle.indexes.specs.Last.{LastRow}
use Rattle.indexes.proofs.Ends.{Ends}
use Rattle.indexes.specs.Wrong.{WrongFrom}
use Rattle.indexes.proofs.last.wrong_last.Given as goal

abbrev pub invariant-loop-i : goal.invariant-loop-i
invariant-loop-i l = (length l.ends ≡ 9) × Ends l.rows l.levels l.ends l.behind l.i × WrongFrom l.rows (LastRow l.rows l.levels) l.last l.i l.wrong
