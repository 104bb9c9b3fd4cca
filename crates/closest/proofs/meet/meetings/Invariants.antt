-- `meet::meetings`: after i turns the array holds how deep the first i rows meet the wanted types. Assumes nothing.
use Rattle.closest.proofs.Meetings.{Walked}
use Rattle.closest.proofs.meet.meetings.Given as goal

abbrev pub invariant-loop-i : goal.invariant-loop-i
invariant-loop-i l = Walked l.levels l.types l.wanted l.i l.near l.deepest
