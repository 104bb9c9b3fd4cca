-- `row::put_row`: the parts, one after the other. Assumes nothing.
use Rattle.names.proofs.Putting.{put_then, put_last}
use Rattle.facts.specs.Facts.{joined_line, row_text}
use Rattle.facts.proofs.row.put_row.Goals as goal

pub returns-clause-put : goal.returns-clause-put
unfolding joined_line row_text
returns-clause-put c =
    let value = put_then c.put_bytes-word.ensures (put_last c.put_value-value.ensures.0) in
    let labels = put_then c.put_byte-comma.ensures (put_then c.put_labels-labels.ensures.0 value) in
    let number = put_then c.put_bytes-colon.ensures (put_then c.put_dewey-dewey.ensures.0 labels) in
    put_then (put_then c.put_named-number.ensures.0 number) c.put_byte.ensures
