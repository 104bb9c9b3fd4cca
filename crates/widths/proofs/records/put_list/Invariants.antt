-- `records::put_list`: what is still to be written is the rest of the padded list. Assumes nothing.
use Rattle.std.proofs.Common.{◌+◌, take, drop}
use Rattle.paper.specs.Lists.{padded}
use Rattle.octets.proofs.Writing.{Writing}
use Rattle.widths.proofs.records.put_list.Given as goal

abbrev pub invariant-loop-k : goal.invariant-loop-k
invariant-loop-k l = let list = padded l.to (take l.from l.r) in Writing l.fn.new l.at list l.new (l.at + l.k) (drop l.k list)
