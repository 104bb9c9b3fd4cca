-- `judging::second::none_apart`: whether a pair earns a 2 is still to come from the pair on. Assumes nothing.
use Rattle.paper.specs.Lists.{is_empty}
use Rattle.judging.specs.Pairs.{apart_pair}
use Rattle.judging.proofs.Faults.{Outer, Inner}
use Rattle.judging.proofs.second.none_apart.Given as goal

abbrev pub invariant-loop-f : goal.invariant-loop-f
invariant-loop-f l = Inner is_empty (apart_pair l.shape l.ways l.meetings) l.shape.entries l.e l.f

abbrev pub invariant-loop-e : goal.invariant-loop-e
invariant-loop-e l = Outer is_empty (apart_pair l.shape l.ways l.meetings) l.shape.entries l.e
