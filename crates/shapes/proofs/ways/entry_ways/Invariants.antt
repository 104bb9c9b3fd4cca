-- `ways::entry_ways`: the entries so far are read. Assumes nothing.
use Rattle.shapes.proofs.Reading.{Read}
use Rattle.shapes.proofs.ways.entry_ways.Given as goal

abbrev pub invariant-loop-e : goal.invariant-loop-e
invariant-loop-e l = Read l.f l.shape l.e l.levels l.labels l.parents l.ways
