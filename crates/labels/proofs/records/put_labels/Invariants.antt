-- `records::put_labels`: what is still to be written are the labels from place k on. Assumes nothing.
use Prim.Native.Nat.{◌+◌, ◌*◌}
use mathlib.Core.List.{map}
use lib.ListN.{drop}
use Rattle.paper.specs.Lists.{join_map}
use Rattle.paper.specs.Format.{bytes, words}
use Rattle.paper.specs.Labels.{pairs, converted}
use Rattle.octets.proofs.Writing.{Writing}
use Rattle.labels.proofs.records.put_labels.Given as goal

abbrev pub invariant-loop-k : goal.invariant-loop-k
invariant-loop-k l =
    let labels = map (converted (pairs l.list)) (words l.n l.r l.from) in
    Writing l.fn.new l.at (join_map (bytes 2) labels) l.new (l.at + 2 * l.k) (join_map (bytes 2) (drop l.k labels))
