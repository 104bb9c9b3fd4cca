-- `next::wrong_next` meets its contract. Assumes nothing.
use Rattle.closest.specs.Runs.{NextRow}
use Rattle.closest.proofs.Index.{Firsts}
use Rattle.indexes.specs.Wrong.{WrongFrom}
use Rattle.indexes.proofs.next.wrong_next.Given as goal

abbrev pub invariant-loop-i : goal.invariant-loop-i
invariant-loop-i l = Firsts l.rows l.types l.seen l.i × WrongFrom l.rows (NextRow l.rows l.types) l.next l.i l.wrong
