-- `entry::bad_entry`: the entries so far keep the rules. Assumes nothing.
use Rattle.shapes.proofs.Breaks.{Search}
use Rattle.shapes.proofs.entry.bad_entry.Given as goal

abbrev pub invariant-loop-e : goal.invariant-loop-e
invariant-loop-e l = Search l.f l.shape l.before l.e
