-- `entry::put_entry`: the number, a colon, the labels, and the end of the line. Assumes nothing.
use Rattle.names.proofs.Putting.{put_then, put_last}
use Rattle.facts.specs.Facts.{joined_line, entry_text}
use Rattle.facts.proofs.entry.put_entry.Goals as goal

pub returns-clause-put : goal.returns-clause-put
unfolding joined_line entry_text
returns-clause-put c =
    let parts = put_then c.put_named-number.ensures.0 (put_then c.put_byte-gap.ensures (put_last c.put_labels-labels.ensures.0)) in
    put_then parts c.put_byte.ensures
