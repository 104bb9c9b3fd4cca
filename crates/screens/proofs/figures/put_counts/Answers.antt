-- `figures::put_counts`: four numbers with their words, a comma and a space between them. Assumes nothing.
use Rattle.screens.specs.Screens.{counts_text}
use Rattle.screens.proofs.Lines.{put_comma}
use Rattle.screens.proofs.figures.put_counts.Goals as goal

pub returns-clause-put : goal.returns-clause-put
unfolding counts_text
returns-clause-put c =
    let two = put_comma c.put_counted-lines.ensures.put c.put_bytes-comma.ensures c.put_counted-rows.ensures.put in
    let three = put_comma two c.put_bytes-comma2.ensures c.put_counted-copies.ensures.put in
    put_comma three c.put_bytes-comma3.ensures c.put_counted.ensures.put
