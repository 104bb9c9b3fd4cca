-- `records::put_records`: the records from each on are still to be written. Assumes nothing.
use Rattle.paper.specs.Labels.{pairs, record_with}
use Rattle.tables.proofs.Walks.{Going}
use Rattle.labels.proofs.records.put_records.Given as goal

abbrev pub invariant-loop-i : goal.invariant-loop-i
invariant-loop-i l = Going (record_with (pairs l.list) l.from l.n) l.w l.w l.count l.b l.fn.new l.new l.i
