-- `row_bytes`, at each width. Assumes nothing.
use Rattle.std.proofs.Common.{sym, ap}
use Rattle.paper.specs.Format.{base, eight, row_bytes}
use Rattle.paper.specs.Widths.{format_of}
use Rattle.totals.proofs.rows.row_bytes.Goals as goal

pub returns-in-Six : goal.returns-in-Six
unfolding base
returns-in-Six c = sym (ap (λ w. row_bytes (format_of w)) c.in-Six.is)

pub returns-in-Eight : goal.returns-in-Eight
unfolding eight
returns-in-Eight c = sym (ap (λ w. row_bytes (format_of w)) c.in-Eight.is)
