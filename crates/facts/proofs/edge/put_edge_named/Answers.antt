-- `edge::put_edge_named`: the word, the entry, two names, the numbers, and the end of the line. Assumes nothing.
use Rattle.grammar.specs.Text.{followed, parted}
use Rattle.names.proofs.Putting.{put_then}
use Rattle.facts.specs.Facts.{edge_fact}
use Rattle.facts.proofs.edge.put_edge_named.Goals as goal

pub returns-clause-put : goal.returns-clause-put
unfolding followed parted edge_fact
returns-clause-put c =
    let names = put_then (put_then c.put_byte-gap.ensures c.put_name-above.ensures.0)
    (put_then (put_then c.put_byte-gap2.ensures c.put_name-below.ensures.0) c.put_numbers-numbers.ensures.0) in
    let parts = put_then c.put_bytes-word.ensures (put_then c.put_after-entry.ensures.0 names) in
    put_then parts c.put_byte.ensures
