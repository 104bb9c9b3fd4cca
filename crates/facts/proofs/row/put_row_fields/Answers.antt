-- `row::put_row_fields`: the first fields, the components, the value, and the end of the line. Assumes nothing.
use Rattle.paper.specs.Tables.{row_of}
use Rattle.names.proofs.Putting.{put_then, put_last}
use Rattle.facts.specs.Facts.{joined_line, row_fields}
use Rattle.facts.proofs.row.put_row_fields.Goals as goal

pub returns-clause-put : goal.returns-clause-put
unfolding row_of joined_line row_fields
returns-clause-put c =
    let value = put_then c.put_bytes-word2.ensures (put_last c.put_value-value.ensures.0) in
    let list = put_then c.put_bytes-word.ensures (put_then c.put_list-list.ensures.0 value) in
    put_then (put_then c.put_row_head-head.ensures.0 list) c.put_byte.ensures
