-- `records::move_records`: the records from each one on are still to be written. Assumes nothing.
use Rattle.tables.proofs.Walks.{Going}
use Rattle.widths.specs.Moves.{fitted, moved_bytes}
use Rattle.widths.proofs.records.move_records.Given as goal

abbrev pub invariant-loop-i : goal.invariant-loop-i
invariant-loop-i l = Going (fitted l.from l.to) l.w (moved_bytes l.w l.from l.to) l.count l.b l.fn.new l.new l.i
