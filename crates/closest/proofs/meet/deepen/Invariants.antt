-- `meet::deepen`: after e turns e places from `at` on are deepened. Assumes nothing.
use Rattle.closest.specs.Deepest.{Deepened}
use Rattle.closest.proofs.meet.deepen.Given as goal

abbrev pub invariant-loop-e : goal.invariant-loop-e
invariant-loop-e l = Deepened l.e l.at l.near l.initial.deepest l.deepest
