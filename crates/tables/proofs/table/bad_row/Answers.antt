-- `table::bad_row`: the rows before row i keep the rules. Assumes nothing.
use Prim.Native.Nat.{ℕ, ◌*◌, ◌+◌, ◌-◌, ◌≤◌, ◌<◌}
use native.Mathlib.Omega.{arith}
use mathlib.Core.Path.{◌≡◌, sym, ◌∙◌, ap, ap₂, subst}
use mathlib.Core.List.{[]}
use lib.ListN.{length}
use Rattle.paper.specs.Format.{row_bytes, whole, byte}
use Rattle.paper.specs.Tables.{row_of, dewey, row_kept}
use Rattle.tables.proofs.Rows.{rec, row_in, none_at_all, first_breaks, search_start, search_stop, search_step, search_end}
use Rattle.tables.proofs.table.bad_row.Goals as goal
use Rattle.tables.proofs.table.bad_row.Goals.{After-row_bytes-w, After-first_kept, After-record-in-loop-i, After-row_kept}

-- row i stands in the table
room : (c : After-row_bytes-w) (i : ℕ) → i < c.args.rows → c.row_bytes-w.result * i + c.row_bytes-w.result ≤ length c.args.table.now
room c i lt =
    row_in c.row_bytes-w.result i c.args.table.now (omega (arith, c.requires.0, ap (λ w. whole w c.args.table.now) c.row_bytes-w.ensures))

-- the first row keeps the rules where the code says so
first_kept : (c : After-first_kept) → row_kept c.args.f [] (row_of c.args.f (rec (row_bytes c.args.f) 0 c.args.table.now)) ≡ c.first_kept.result
first_kept c =
    let f = c.args.f in
    let row = c.«record».ensures.0 ∙ ap (λ w. rec w 0 c.args.table.now) c.row_bytes-w.ensures in
    ap (λ r. row_kept f [] (row_of f r)) (sym row) ∙ sym c.first_kept.ensures

-- the row before row i
row_before : (c : After-record-in-loop-i) → c.record-in-loop-i.result.now ≡ rec (row_bytes c.args.f) (c.loop-i.i - 1) c.args.table.now
row_before c = c.record-in-loop-i.ensures.0 ∙ ap (λ w. rec w (c.loop-i.i - 1) c.args.table.now) c.row_bytes-w.ensures

-- and so does row i after the row before it
row_kept_here : (c : After-row_kept) →
    let f = c.args.f in
    let t = c.args.table.now in
    row_kept f (dewey (row_of f (rec (row_bytes f) (c.loop-i.i - 1) t))) (row_of f (rec (row_bytes f) c.loop-i.i t)) ≡ c.row_kept.result
row_kept_here c =
    let f = c.args.f in
    let t = c.args.table.now in
    let before = c.record-in-loop-i.ensures.0 ∙ ap (λ w. rec w (c.loop-i.i - 1) t) c.row_bytes-w.ensures in
    let row = c.record-in-loop-i-2.ensures.0 ∙ ap (λ w. rec w c.loop-i.i t) c.row_bytes-w.ensures in
    ap₂ (λ x y. row_kept f (dewey (row_of f x)) (row_of f y)) (sym before) (sym row) ∙ sym c.row_kept.ensures

pub returns-then-rows-eq0 : goal.returns-then-rows-eq0
returns-then-rows-eq0 c = (sym (none_at_all c.args.f c.args.table.now (sym c.requires.0 ∙ c.if-rows-eq0.true)), tt)

pub record-requires : goal.record-requires
record-requires c = room (goal.at.record-requires c).After-row_bytes-w 0 (omega arith)

pub returns-then-not-first_kept : goal.returns-then-not-first_kept
returns-then-not-first_kept c =
    let k = first_kept (goal.at.returns-then-not-first_kept c).After-first_kept in
    (sym (first_breaks c.args.f c.args.table.now (omega (arith, c.requires.0)) (k ∙ c.if-not-first_kept.true)), omega arith)

pub loop-i-init : goal.loop-i-init
loop-i-init c =
    search_start c.args.f c.args.table.now (omega (arith, c.requires.0))
    (first_kept (goal.at.loop-i-init c).After-first_kept ∙ c.if-not-first_kept.false)

pub record-requires-in-loop-i : goal.record-requires-in-loop-i
record-requires-in-loop-i c = room (goal.at.record-requires-in-loop-i c).After-row_bytes-w (c.loop-i.i - 1) (omega (arith, c.loop-i.invariant.0))

pub record-requires-in-loop-i-2 : goal.record-requires-in-loop-i-2
record-requires-in-loop-i-2 c = room (goal.at.record-requires-in-loop-i-2 c).After-row_bytes-w c.loop-i.i (omega arith)

pub row_kept-requires : goal.row_kept-requires
row_kept-requires c =
    let wide = c.row_bytes-w.ensures in
    let before = row_before (goal.at.row_kept-requires c).After-record-in-loop-i in
    let level = subst (λ r. byte r 0 ≤ c.args.f.levels) (sym before) c.loop-i.invariant.2 in
    (c.record-in-loop-i.ensures.1 ∙ wide, c.record-in-loop-i-2.ensures.1 ∙ wide, c.requires.1, level)

pub returns-then-not-row_kept : goal.returns-then-not-row_kept
returns-then-not-row_kept c =
    let k = row_kept_here (goal.at.returns-then-not-row_kept c).After-row_kept in
    (sym (search_stop c.args.f c.args.table.now c.loop-i.i c.loop-i.invariant (omega (arith, c.requires.0)) (k ∙ c.if-not-row_kept.true)), omega arith)

pub loop-i-preserved : goal.loop-i-preserved
loop-i-preserved c =
    let k = row_kept_here (goal.at.loop-i-preserved c).After-row_kept in
    search_step c.args.f c.args.table.now c.loop-i.i c.loop-i.invariant (omega (arith, c.requires.0)) (k ∙ c.if-not-row_kept.false)

pub returns : goal.returns
returns c = (sym (search_end c.args.f c.args.table.now c.loop-i.i c.loop-i.invariant (omega (arith, c.requires.0))), tt)
