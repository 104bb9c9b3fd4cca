-- `summary::put_under`: the parts between the rows and the end of the line. Assumes nothing.
use native.Mathlib.Omega.{arith}
use Rattle.names.proofs.Putting.{put_then}
use Rattle.screens.specs.Screens.{under_text}
use Rattle.screens.proofs.summary.put_under.Goals as goal

pub returns : goal.returns
unfolding under_text
returns c =
    let least = put_then c.put_bytes-comma.ensures c.put_number-low.ensures.0 in
    let greatest = put_then (put_then least c.put_bytes-dots.ensures) c.put_number-high.ensures.0 in
    let whole = put_then (put_then greatest c.put_bytes-under.ensures) c.put_with_article.ensures.0 in
    (whole, omega arith)
