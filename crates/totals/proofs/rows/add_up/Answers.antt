-- `add_up`: the row at hand, and what its value adds. Assumes nothing.
use Rattle.std.proofs.Common.{◌<◌, get_or, arith}
use lib.ListN.{length-take}
use mir.Syntax.{w64}
use mir.Val.{SFits, to_z}
use borrow.Author.Tests.{eq-eqb, ne_eqb}
use Rattle.paper.specs.Format.{most_rows}
use Rattle.totals.proofs.Adding.{tested, row_at, adding_shown, adding_unshown, adding_fits}
use Rattle.totals.proofs.rows.add_up.Goals.{then-marks-row-eq1, else-marks-row-eq1}
use Rattle.totals.proofs.rows.add_up.Goals as goal

pub value_at-value-requires : goal.value_at-value-requires
value_at-value-requires c = omega (arith, (row_at _ _ _ _ _ c.requires.rows_of c.loop-number-test.true c.wide32-row.ensures.0).inside)

pub bounds-marks-row : goal.bounds-marks-row
bounds-marks-row c = omega (arith, (row_at _ _ _ _ _ c.requires.rows_of c.loop-number-test.true c.wide32-row.ensures.0).few)

pub overflow_add-shown : goal.overflow_add-shown
overflow_add-shown c =
    let v = c.value_at-value in
    let fits : SFits w64 v.result = record { sfits = v.type_inv } in
    let row = row_at _ _ _ _ _ c.requires.rows_of c.loop-number-test.true c.wide32-row.ensures.0 in
    adding_fits c.loop-number.invariant row v.result v.ensures (tested v.result _ _ fits c.lies_within.ensures c.if-not-lies_within.false)
    (omega (arith, length-take c.args.count c.args.rows.now)) fits (to_z w64 c.loop-number.shown-bits) c.loop-number.invariant.small

pub overflow_add-unshown : goal.overflow_add-unshown
overflow_add-unshown c =
    let v = c.value_at-value in
    let fits : SFits w64 v.result = record { sfits = v.type_inv } in
    let row = row_at _ _ _ _ _ c.requires.rows_of c.loop-number-test.true c.wide32-row.ensures.0 in
    adding_fits c.loop-number.invariant row v.result v.ensures (tested v.result _ _ fits c.lies_within.ensures c.if-not-lies_within.false)
    (omega (arith, length-take c.args.count c.args.rows.now)) fits (to_z w64 c.loop-number.unshown-bits) c.loop-number.invariant.small-unshown

pub loop-number-preserved : goal.loop-number-preserved
loop-number-preserved c =
    let g = c.loop-number.invariant in
    let v = c.value_at-value in
    let fits : SFits w64 v.result = record { sfits = v.type_inv } in
    let row = row_at _ _ _ _ _ c.requires.rows_of c.loop-number-test.true c.wide32-row.ensures.0 in
    let in_range = tested v.result _ _ fits c.lies_within.ensures c.if-not-lies_within.false in
    let few : c.loop-number.number-index < most_rows = omega (arith, length-take c.args.count c.args.rows.now) in
    let mark = get_or c.args.marks.now c.wide32-row.result 0 in
    elim c.if-marks-row-eq1.branch [
      | then-marks-row-eq1 w ↦
          rw (w.shown-is, w.unshown-is) (adding_shown g row v.result v.ensures in_range few fits (eq-eqb mark 1 w.if-marks-row-eq1.true))
      | else-marks-row-eq1 w ↦
          rw (w.shown-is, w.unshown-is) (adding_unshown g row v.result v.ensures in_range few fits (ne_eqb mark 1 w.if-marks-row-eq1.false))
    ]
