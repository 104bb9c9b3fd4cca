-- `reading::reader::row_at` meets its contract. Assumes nothing.
use Prim.Native.Nat.{◌*◌, ◌<◌, ◌≤◌}
use native.Mathlib.Nat.{mul-div-le}
use native.Mathlib.Omega.{arith}
use mathlib.Core.Path.{◌≡◌, ap, ◌∙◌, subst}
use lib.ListN.{length, take, drop}
use Rattle.paper.specs.Format.{row_bytes, whole}
use Rattle.paper.specs.Widths.{format_of}
use Rattle.octets.specs.Part.{OwnFrom}
use Rattle.octets.proofs.Laws.{record_in, format_served}
use Rattle.reading.proofs.Reading.{row_handed, end_handed}
use Rattle.reading.proofs.reader.row_at.Goals as goal
use Rattle.reading.proofs.reader.row_at.Goals.{After-row_bytes-w}

-- a row's bytes are those of the width
wide : (c : After-row_bytes-w) → c.row_bytes-w.result ≡ row_bytes (format_of c.args.width)
wide c = c.row_bytes-w.ensures ∙ ap row_bytes c.format_of.ensures

pub row_bytes-w-requires : goal.row_bytes-w-requires
row_bytes-w-requires c =
    omega (arith, (format_served c.format_of.result c.args.width c.format_of.ensures).shallow)

pub record-requires : goal.record-requires
record-requires c =
    let a = c.args in
    let w = c.row_bytes-w.result in
    let n = length a.table.now in
    record_in w a.at (whole w a.table.now) n c.if-at-rows.true (mul-div-le n w)

pub returns-then-at-rows : goal.returns-then-at-rows
returns-then-at-rows c =
    let a = c.args in
    let r = c.«record» in
    row_handed (format_of a.width) a.table a.at (subst (λ w. a.at < whole w a.table.now) (wide (goal.at.returns-then-at-rows c).After-row_bytes-w) c.if-at-rows.true)
    r.result (subst (λ w. r.result.now ≡ take w (drop (w * a.at) a.table.now)) (wide (goal.at.returns-then-at-rows c).After-row_bytes-w) r.ensures.0)
    (subst (λ w. OwnFrom a.table (w * a.at) r.result) (wide (goal.at.returns-then-at-rows c).After-row_bytes-w) r.ensures.2)

pub returns : goal.returns
returns c =
    let a = c.args in
    end_handed (format_of a.width) a.table a.at (subst (λ w. whole w a.table.now ≤ a.at) (wide (goal.at.returns c).After-row_bytes-w) c.if-at-rows.false)
