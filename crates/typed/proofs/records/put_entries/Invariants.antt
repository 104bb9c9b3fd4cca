-- `records::put_entries`: the records from each entry on are still to be put. Assumes nothing.
use Rattle.typed.proofs.Back.{Putting}
use Rattle.typed.proofs.records.put_entries.Given as goal

abbrev pub invariant-loop-e : goal.invariant-loop-e
invariant-loop-e l = Putting l.f l.parents l.labels l.count l.levels l.types l.entries l.w l.fn.new l.new l.e
