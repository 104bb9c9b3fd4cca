-- `reading::reader::place_after` meets its contract. Assumes nothing.
use Prim.Native.Nat.{◌<◌, ◌≤◌}
use native.Mathlib.Omega.{arith}
use native.Mathlib.Nat.{div-le_self}
use native.Mathlib.Numerals.{add-one}
use mathlib.Core.Path.{◌≡◌, sym, ap, ◌∙◌, subst}
use lib.ListN.{length}
use Rattle.paper.specs.Format.{row_bytes, whole}
use Rattle.paper.specs.Widths.{format_of}
use Rattle.octets.proofs.Laws.{format_served}
use Rattle.reading.proofs.Reading.{reader_next-row, reader_next_end}
use Rattle.reading.proofs.reader.place_after.Goals as goal
use Rattle.reading.proofs.reader.place_after.Goals.{After-row_bytes-w}

-- a row's bytes are those of the width
wide : (c : After-row_bytes-w) → c.row_bytes-w.result ≡ row_bytes (format_of c.args.width)
wide c = c.row_bytes-w.ensures ∙ ap row_bytes c.format_of.ensures

pub row_bytes-w-requires : goal.row_bytes-w-requires
row_bytes-w-requires c =
    omega (arith, (format_served c.format_of.result c.args.width c.format_of.ensures).shallow)

pub overflow_add-result : goal.overflow_add-result
overflow_add-result c =
    let a = c.args in
    omega (arith, c.if-at-table.true, div-le_self (length a.table.now) c.row_bytes-w.result, c.well_formed)

pub returns-then-at-table : goal.returns-then-at-table
returns-then-at-table c =
    let a = c.args in
    add-one a.at
    ∙ sym (reader_next-row (format_of a.width) a.table.now a.at (subst (λ w. a.at < whole w a.table.now) (wide (goal.at.returns-then-at-table c).After-row_bytes-w) c.if-at-table.true))

pub returns : goal.returns
returns c =
    let a = c.args in
    sym (reader_next_end (format_of a.width) a.table.now a.at (subst (λ w. whole w a.table.now ≤ a.at) (wide (goal.at.returns c).After-row_bytes-w) c.if-at-table.false))
