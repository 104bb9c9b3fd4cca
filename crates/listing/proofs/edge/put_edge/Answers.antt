-- `edge::put_edge`: the word, the entry, its numbers, and the end of the line. Assumes nothing.
use Rattle.grammar.specs.Text.{followed, parted}
use Rattle.listing.specs.Listing.{edge_text}
use Rattle.names.proofs.Putting.{put_then}
use Rattle.listing.proofs.edge.put_edge.Goals as goal

pub returns-clause-put : goal.returns-clause-put
unfolding followed parted edge_text
returns-clause-put c =
    let parts = put_then c.put_bytes-word.ensures (put_then c.put_after-entry.ensures.0 c.put_numbers-numbers.ensures.0) in
    put_then parts c.put_byte.ensures
