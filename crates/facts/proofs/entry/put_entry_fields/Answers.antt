-- `entry::put_entry_fields`: the first fields, the labels, and the end of the line. Assumes nothing.
use Rattle.paper.specs.Shapes.{entry_of}
use Rattle.names.proofs.Putting.{put_then, put_last}
use Rattle.facts.specs.Facts.{joined_line, entry_fields}
use Rattle.facts.proofs.entry.put_entry_fields.Goals as goal

pub returns-clause-put : goal.returns-clause-put
unfolding entry_of joined_line entry_fields
returns-clause-put c =
    let labels = put_then c.put_bytes-word.ensures (put_last c.put_list-labels.ensures.0) in
    put_then (put_then c.put_entry_head-head.ensures.0 labels) c.put_byte.ensures
