-- `figures::put_figures`: the parts of the line, one after the other. Assumes nothing.
use Rattle.names.proofs.Putting.{put_then}
use Rattle.screens.specs.Screens.{figures_text}
use Rattle.screens.proofs.figures.put_figures.Goals as goal

pub returns-clause-put : goal.returns-clause-put
unfolding figures_text
returns-clause-put c =
    let entry = put_then c.put_indent-indent.ensures.0 c.put_number-number.ensures.0 in
    let label = put_then entry (put_then c.put_byte-gap.ensures c.put_name-name.ensures.0) in
    let parts = put_then (put_then label c.put_bytes-colon.ensures) c.put_counts-counts.ensures.put in
    put_then parts c.put_byte.ensures
