-- `put_number`: what is still to be written are the components from place k on. Assumes nothing.
use Prim.Native.Nat.{◌+◌, ◌*◌}
use lib.ListN.{drop}
use Rattle.paper.specs.Lists.{join_map}
use Rattle.paper.specs.Format.{bytes}
use Rattle.octets.proofs.Writing.{Writing}
use Rattle.lines.proofs.put.put_number.Given as goal

abbrev pub invariant-loop-k : goal.invariant-loop-k
invariant-loop-k l =
    Writing l.fn.new l.at (join_map (bytes 2) l.number) l.new (l.at + 2 * l.k) (join_map (bytes 2) (drop l.k l.number))
