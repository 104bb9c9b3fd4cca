-- `silmezga_c::silmezga_look_up` meets its contract. Assumes nothing.
use Prim.Native.Nat.{◌*◌, ◌<◌, ◌^◌}
use native.Mathlib.Omega.{arith}
use mathlib.Core.Path.{◌≡◌, sym, ◌∙◌, ap, subst}
use Rattle.std.specs.Prelude.{Ok, Err}
use Rattle.paper.specs.Format.{Format, row_bytes, whole}
use Rattle.paper.specs.Widths.{format_of}
use Rattle.paper.specs.Tables.{rows}
use Rattle.paper.specs.Calls.{given, tests1_3, examine}
use Rattle.paper.specs.Refusals.{refusal_number, refusal_place}
use Rattle.paper.proofs.Refusals.{numbered}
use Rattle.octets.proofs.Laws.{format_served}
use Rattle.tables.specs.Reply.{examined}
use Rattle.tables.proofs.Examine.{tests_refuse, tests_give, look_up-refused, look_up_past}
use Rattle.silmezga_c.specs.Told.{format_numbered, LooksUp}
use Rattle.silmezga_c.proofs.Told.{told-refused, start_small, told-row}
use Rattle.silmezga_c.proofs.silmezga_look_up.Goals as goal
use Rattle.silmezga_c.proofs.silmezga_look_up.Goals.{In-Ok, After-row_bytes-length}

-- the table is accepted, and its rows are counted
accepted : (c : In-Ok) →
    let f = format_numbered c.args.width in
    (tests1_3 f c.args.table.now ≡ given (rows f c.args.table.now)) × (c.in-Ok.rows ≡ whole (row_bytes f) c.args.table.now)
accepted c =
    tests_give (format_numbered c.args.width) c.args.table.now c.in-Ok.rows
    (subst (λ w. examined (Ok c.in-Ok.rows) ≡ examine (format_of w) c.args.table.now) c.width_of-w.ensures c.in-Ok.ensures)

-- the bytes of a row
width : (c : After-row_bytes-length) → c.row_bytes-length.result ≡ row_bytes (format_numbered c.args.width)
width c = c.row_bytes-length.ensures ∙ ap (λ (f : Format). row_bytes f) (c.format_of.ensures ∙ ap format_of c.width_of-w.ensures)

pub returns-in-Err : goal.returns-in-Err
returns-in-Err c =
    let f = format_numbered c.args.width in
    let t = c.args.table.now in
    let e = c.in-Err.refusal in
    let refusal = tests_refuse f t e (subst (λ w. examined (Err e) ≡ examine (format_of w) t) c.width_of-w.ensures c.in-Err.ensures) in
    told-refused f t c.args.row (refusal_number e) (refusal_place e) c.no_row.result (numbered e)
    (look_up-refused f t c.args.row (refusal_number e) (refusal_place e) refusal) c.no_row.ensures

pub returns-then-rows-row : goal.returns-then-rows-row
returns-then-rows-row c =
    let f = format_numbered c.args.width in
    let g = accepted (goal.at.returns-then-rows-row c).In-Ok in
    told-refused f c.args.table.now c.args.row 11 c.args.row c.no_row-then-rows-row.result (λ e. omega (arith, e))
    (look_up_past f c.args.table.now c.args.row g.0 (omega (arith, g.1, c.if-rows-row.true))) c.no_row-then-rows-row.ensures

pub row_bytes-length-requires : goal.row_bytes-length-requires
row_bytes-length-requires c = omega (arith, (format_served _ c.width_of-w.result c.format_of.ensures).shallow)

pub overflow_mul-result : goal.overflow_mul-result
overflow_mul-result c =
    let f = format_numbered c.args.width in
    let row = c.args.row in
    let at = goal.at.overflow_mul-result c in
    let g = accepted at.In-Ok in
    let small = start_small f c.args.table.now row g.0 (omega (arith, g.1, c.if-rows-row.false)) in
    let served = format_served _ c.width_of-w.result c.format_of.ensures in
    let is = width at.After-row_bytes-length in
    let fits : row_bytes f * row < 2 ^ 64 = omega (arith, small, served.shallow, is, c.row_bytes-length.ensures) in
    omega (arith, subst (λ w. w * row < 2 ^ 64) (sym is) fits)

pub returns : goal.returns
returns c =
    let f = format_numbered c.args.width in
    let row = c.args.row in
    let at = goal.at.returns c in
    let g = accepted at.In-Ok in
    subst (λ w. LooksUp f c.args.table.now row (record { number = 0; place = 0; start = w * row; length = w })) (sym (width at.After-row_bytes-length))
    (told-row f c.args.table.now row g.0 (omega (arith, g.1, c.if-rows-row.false)))
