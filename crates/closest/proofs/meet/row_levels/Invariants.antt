-- `meet::row_levels`: the first byte of each row so far stands in its place. Assumes nothing.
use Rattle.paper.specs.Format.{most_rows}
use Rattle.closest.proofs.Filled.{Filled}
use Rattle.closest.proofs.Meetings.{first_byte}
use Rattle.closest.proofs.meet.row_levels.Given as goal

abbrev pub invariant-loop-i : goal.invariant-loop-i
invariant-loop-i l = Filled (first_byte l.w l.table) 0 most_rows l.i l.levels
