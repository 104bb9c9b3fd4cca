-- `line::put_value`: a value below 2 ^ 63 is its bits; any other is a hyphen and what is missing to 2 ^ 64. Assumes nothing.
use native.Mathlib.Omega.{arith}
use mathlib.Core.Path.{◌∙◌, ap}
use Rattle.paper.specs.Format.{number, span}
use Rattle.paper.specs.Tables.{row_of}
use Rattle.names.proofs.Putting.{put_as}
use Rattle.listing.proofs.Values.{not_below, below}
use Rattle.listing.proofs.line.put_value.Goals as goal

pub returns-then-bits-lt9223372036854775808 : goal.returns-then-bits-lt9223372036854775808
unfolding row_of
returns-then-bits-lt9223372036854775808 c =
    let a = c.args in
    let row = a.row.now in
    let is = c.long-bits.ensures ∙ ap (λ i. number (span 8 row i)) c.entry_bytes-from.ensures in (
      put_as c.put_number.ensures.0 (not_below (row_of a.f row).value c.long-bits.result is (omega arith)),
      omega (arith, c.put_number.ensures.1),
    )

pub returns-else-bits-lt9223372036854775808 : goal.returns-else-bits-lt9223372036854775808
unfolding row_of
returns-else-bits-lt9223372036854775808 c =
    let a = c.args in
    let row = a.row.now in
    let is = c.long-bits.ensures ∙ ap (λ i. number (span 8 row i)) c.entry_bytes-from.ensures in (
      put_as c.put_after.ensures.0 (below (row_of a.f row).value c.long-bits.result is (omega arith) _ (omega arith) (omega arith)),
      c.put_after.ensures.1,
    )
