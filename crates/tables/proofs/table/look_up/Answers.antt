-- `table::look_up`: what each branch hands back. Assumes nothing.
use Prim.Native.Nat.{◌+◌, ◌*◌, ◌≤◌}
use native.Mathlib.Omega.{arith}
use mathlib.Core.Path.{◌≡◌, sym, subst}
use lib.ListN.{length, take, drop}
use Rattle.paper.specs.Format.{row_bytes, whole}
use Rattle.paper.specs.Tables as Tables
use Rattle.paper.specs.Calls.{given, tests1_3}
use Rattle.paper.specs.Refusals.{refusal_number, refusal_place}
use Rattle.paper.proofs.Refusals.{numbered}
use Rattle.octets.specs.Part.{OwnFrom}
use Rattle.tables.proofs.Examine.{tests_refuse, tests_give, look_up-refused, look_up_past, look_up-row}
use Rattle.tables.proofs.Rows.{row_in}
use Rattle.tables.proofs.Back.{nothing_back, row_back_lem}
use Rattle.tables.proofs.table.look_up.Goals as goal
use Rattle.tables.proofs.table.look_up.Goals.{In-Ok}

-- the table is accepted, and its rows are counted
accepted : (c : In-Ok) →
    (tests1_3 c.args.f c.args.table.now ≡ given (Tables.rows c.args.f c.args.table.now)) × (c.in-Ok.rows ≡ whole (row_bytes c.args.f) c.args.table.now)
accepted c = tests_give c.args.f c.args.table.now c.in-Ok.rows c.in-Ok.ensures

pub returns-in_default : goal.returns-in_default
returns-in_default c =
    let e = c.in_default.field-0 in
    nothing_back c.args.f c.args.table c.args.i (refusal_number e) (refusal_place e) (numbered e)
    (look_up-refused c.args.f c.args.table.now c.args.i (refusal_number e) (refusal_place e) (tests_refuse c.args.f c.args.table.now e c.in_default.ensures))

pub record-requires : goal.record-requires
record-requires c =
    let a = c.args in
    subst (λ w. w * a.i + w ≤ length a.table.now) (sym c.row_bytes.ensures)
    (row_in (row_bytes a.f) a.i a.table.now (omega (arith, c.if-i-rows.true, (accepted (goal.at.record-requires c).In-Ok).1)))

pub returns-then-i-rows : goal.returns-then-i-rows
returns-then-i-rows c =
    let a = c.args in
    let t = a.table.now in
    let r = c.«record» in
    let g = accepted (goal.at.returns-then-i-rows c).In-Ok in
    row_back_lem a.f a.table a.i r.result (subst (λ w. r.result.now ≡ take w (drop (w * a.i) t)) c.row_bytes.ensures r.ensures.0)
    (subst (λ w. OwnFrom a.table (w * a.i) r.result) c.row_bytes.ensures r.ensures.2)
    (look_up-row a.f t a.i g.0 (omega (arith, c.if-i-rows.true, g.1)))

pub returns : goal.returns
returns c =
    let a = c.args in
    let g = accepted (goal.at.returns c).In-Ok in
    nothing_back a.f a.table a.i 11 a.i (λ e. omega (arith, e)) (look_up_past a.f a.table.now a.i g.0 (omega (arith, c.if-i-rows.false, g.1)))
