-- `mark_shown`: each source place of the entry marks its row, and any other marks none. Assumes nothing.
use Rattle.std.proofs.Common.{take}
use Rattle.totals.specs.Rows.{Marks}
use Rattle.totals.proofs.rows.mark_shown.Given as goal

abbrev pub invariant-loop-place : goal.invariant-loop-place
invariant-loop-place l = Marks l.entry (take l.place-index l.sources) l.fn.marks l.marks
