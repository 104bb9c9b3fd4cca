-- `put`: what is still to be written is the rest of the text. Assumes nothing.
use Rattle.std.proofs.Common.{◌+◌, drop}
use Rattle.octets.proofs.Writing.{Writing}
use Rattle.octets.proofs.put.Given as goal

abbrev pub invariant-loop-k : goal.invariant-loop-k
invariant-loop-k l = Writing l.fn.out l.at l.text l.out (l.at + l.k) (drop l.k l.text)
