-- `line::put_line`: the parts of a line, one after the other, a space before each but the first. Assumes nothing.
use Prim.Native.Nat.{◌/◌, ◌%◌}
use native.Mathlib.Omega.{arith}
use mathlib.Core.Path.{ap}
use Rattle.paper.specs.Tables.{row_of}
use Rattle.paper.specs.NewTable.{entry_unit}
use Rattle.grammar.specs.Text.{followed, parted}
use Rattle.grammar.specs.Names.{name_text}
use Rattle.listing.specs.Listing.{line_text}
use Rattle.names.proofs.Putting.{put_then, put_last, put_as, put_figure}
use Rattle.listing.proofs.line.put_line.Goals as goal

pub returns-clause-put : goal.returns-clause-put
unfolding row_of followed parted line_text
returns-clause-put c =
    let value = put_last (put_then c.put_byte-gap2.ensures c.put_value-value.ensures.0) in
    let name = put_then c.put_byte-gap.ensures (put_as c.put_name-name.ensures.0 (ap name_text c.word.ensures.0)) in
    let source = c.args.source in
    let entry = put_figure c.put_after-entry.ensures.0 (source / entry_unit) (omega arith) in
    let origin = put_figure c.put_after-origin.ensures.0 (source % entry_unit) (omega arith) in
    let after = put_then entry (put_then name (put_then origin value)) in
    put_then (put_then c.put_dewey-dewey.ensures.0 after) c.put_byte.ensures
