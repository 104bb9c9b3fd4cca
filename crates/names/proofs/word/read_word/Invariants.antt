-- `word::read_word`: the labels of the parts passed are read. Assumes nothing.
use Prim.Native.Nat.{◌+◌, ◌-◌, ◌≤◌}
use lib.ListN.{length}
use Rattle.names.proofs.Reading.{Read}
use Rattle.names.proofs.word.read_word.Given as goal

abbrev pub invariant-loop-p : goal.invariant-loop-p
invariant-loop-p l = (l.p ≤ length l.word + 1) × (l.size ≤ l.p) × Read l.f l.word l.p l.size l.labels

abbrev pub decreases-loop-p : goal.decreases-loop-p
decreases-loop-p l = length l.word + 1 - l.p
