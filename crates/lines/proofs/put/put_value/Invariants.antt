-- `put_value`: what is still to be written are the bytes from place k on. Assumes nothing.
use Rattle.std.proofs.Common.{◌+◌, drop}
use Rattle.octets.proofs.Writing.{Writing}
use Rattle.lines.proofs.put.put_value.Given as goal

abbrev pub invariant-loop-k : goal.invariant-loop-k
invariant-loop-k l = Writing l.fn.new l.at l.value l.new (l.at + l.k) (drop l.k l.value)
