-- `word::by_number`: the digits passed are those of v. Assumes nothing.
use Rattle.names.proofs.Numbered.{Passed}
use Rattle.names.proofs.word.by_number.Given as goal

abbrev pub invariant-loop-x : goal.invariant-loop-x
invariant-loop-x l = Passed l.part l.x-index l.v
