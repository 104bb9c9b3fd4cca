-- `summary::put_type`: the rows, below level 1 what they stand under, and the end of the line. Assumes nothing.
use Rattle.names.proofs.Putting.{put_then, put_as}
use Rattle.screens.proofs.Lines.{root_line, lower_line}
use Rattle.screens.proofs.summary.put_type.Goals as goal

pub returns-then-s-eq1-clause-put : goal.returns-then-s-eq1-clause-put
returns-then-s-eq1-clause-put c = put_as (put_then c.put_rows-rows.ensures.0 c.put_byte.ensures) (root_line _ c.args.above c.if-s-eq1.true)

pub returns-clause-put : goal.returns-clause-put
returns-clause-put c =
    let parts = put_then c.put_rows-rows.ensures.0 c.put_under-under.ensures.0 in
    put_as (put_then parts c.put_byte-2.ensures) (lower_line _ c.args.above c.if-s-eq1.false)
