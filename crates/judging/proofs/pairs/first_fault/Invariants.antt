-- `judging::pairs::first_fault`: the first fault is still to come from the pair on. Assumes nothing.
use Rattle.paper.specs.Lists.{first_or}
use Rattle.paper.specs.Verdict.{kept}
use Rattle.judging.proofs.Faults.{Outer, Inner, faults_of}
use Rattle.judging.proofs.pairs.first_fault.Given as goal

abbrev pub invariant-loop-f : goal.invariant-loop-f
invariant-loop-f l = Inner (first_or kept) (faults_of l.shape l.ways l.full l.meetings) l.shape.entries l.e l.f

abbrev pub invariant-loop-e : goal.invariant-loop-e
invariant-loop-e l = Outer (first_or kept) (faults_of l.shape l.ways l.full l.meetings) l.shape.entries l.e
