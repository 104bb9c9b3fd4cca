-- `summary::put_rows`: the indent, the name, a space, and the rows. Assumes nothing.
use native.Mathlib.Omega.{arith}
use Rattle.names.proofs.Putting.{put_then}
use Rattle.screens.specs.Screens.{rows_text}
use Rattle.screens.proofs.summary.put_rows.Goals as goal

pub returns : goal.returns
unfolding rows_text
returns c =
    let label = put_then c.put_indent-indent.ensures.0 c.put_name-name.ensures.0 in
    let whole = put_then label (put_then c.put_byte-gap.ensures c.put_counted.ensures.put) in
    (whole, omega arith)
