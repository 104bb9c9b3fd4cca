use Rattle.tables.proofs.Laws.{Walk}
use Rattle.tables.proofs.row.agree.Given as goal

abbrev pub invariant-loop-k : goal.invariant-loop-k
invariant-loop-k l = Walk l.f l.x l.y l.n l.k
