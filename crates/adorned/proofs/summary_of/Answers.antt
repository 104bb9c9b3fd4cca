-- `summary_of`: the summary of a type of top rows, and of one below. Assumes nothing.
use Rattle.adorned.proofs.Summaries.{root_summary, deep_summary}
use Rattle.adorned.proofs.summary_of.Goals as goal

pub returns-then-parent-eq64 : goal.returns-then-parent-eq64
returns-then-parent-eq64 c f t parents labels count typed listed =
    root_summary typed listed c.count_rows-c.result c.if-parent-eq64.true c.count_rows-c.ensures.0

pub returns-else-parent-eq64 : goal.returns-else-parent-eq64
returns-else-parent-eq64 c f t parents labels count typed listed =
    let r = c.children_range-r in
    deep_summary typed listed c.count_rows-c.result r.result.least r.result.greatest c.if-parent-eq64.false c.count_rows-c.ensures.0
    r.ensures.0 r.ensures.1
