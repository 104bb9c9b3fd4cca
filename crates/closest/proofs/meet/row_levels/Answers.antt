-- `meet::row_levels`: a row of the table is read, and the first bytes of all are their levels. Assumes nothing.
use native.Mathlib.Omega.{arith}
use Rattle.closest.proofs.Meetings.{row_inside, levels_read}
use Rattle.closest.proofs.meet.row_levels.Goals as goal

pub record-row-requires : goal.record-row-requires
record-row-requires c = row_inside _ _ _ c.requires.0 _ c.row_bytes-w.ensures c.loop-i.i c.loop-i-test.true

pub returns : goal.returns
returns c = levels_read _ _ _ c.requires.0 _ c.row_bytes-w.ensures c.loop-i.i _ (omega arith) c.loop-i.invariant
