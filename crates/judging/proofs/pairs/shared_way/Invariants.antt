-- `judging::pairs::shared_way`: the places before k are alike. Assumes nothing.
use Rattle.judging.proofs.Ways.{Alike}
use Rattle.judging.proofs.pairs.shared_way.Given as goal

abbrev pub invariant-loop-k : goal.invariant-loop-k
invariant-loop-k l = Alike l.ways l.e l.f l.k
