-- `convert::convert`: what the tests of the two files refuse, else what is left to be tested. Assumes nothing.
use mathlib.Core.Path.{◌≡◌, sym, ◌∙◌, ap, subst}
use lib.Dec.{lit≤}
use Rattle.std.proofs.lemmas.Result.{err_from_is_err_and}
use Rattle.paper.specs.Format.{Format, row_bytes, entry_bytes, whole}
use Rattle.paper.specs.Tables as Tables
use Rattle.paper.specs.Shapes as Shapes
use Rattle.paper.specs.Calls.{given, tests1_3, tests5_6, examine}
use Rattle.paper.specs.Labels.{old_range}
use Rattle.octets.specs.Served.{Served}
use Rattle.tables.proofs.Examine as Table
use Rattle.shapes.specs.Tests.{shape_reply}
use Rattle.shapes.proofs.Examined as Shape
use Rattle.labels.proofs.Answers.{table-refused, shape-refused}
use Rattle.labels.proofs.convert.convert.Goals as goal
use Rattle.labels.proofs.convert.convert.Goals.{In_ok-rows, In_ok-entries}

-- the old range is served
served : (f g : Format) → g ≡ old_range f → Served f → Served g
served f g e s = subst (λ (h : Format). Served h) (sym e) (record { deep = s.deep; shallow = s.shallow; small = lit≤ tt })

-- Each file passes its tests on the old range, and is counted.
table_passes : (c : In_ok-rows) →
    let a = c.args in
    (tests1_3 (old_range a.f) a.table.now ≡ given (Tables.rows (old_range a.f) a.table.now)) × (c.in_ok-rows.rows ≡ whole (row_bytes a.f) a.table.now)
table_passes c =
    let a = c.args in
    Table.tests_give (old_range a.f) a.table.now c.in_ok-rows.rows
    (c.in_ok-rows.ensures ∙ ap (λ (g : Format). examine g a.table.now) c.old_range.ensures)

shape_passes : (c : In_ok-entries) →
    let a = c.args in
    (tests5_6 (old_range a.f) a.shape.now ≡ given (Shapes.entries (old_range a.f) a.shape.now))
    × (c.in_ok-entries.entries ≡ whole (entry_bytes a.f) a.shape.now)
shape_passes c =
    let a = c.args in
    Shape.tests_give (old_range a.f) a.shape.now c.in_ok-entries.entries
    (c.in_ok-entries.ensures ∙ ap (λ (g : Format). shape_reply g a.shape.now) c.old_range-2.ensures)

pub examine-requires : goal.examine-requires
examine-requires c = served c.args.f _ c.old_range.ensures c.requires

pub returns-in_err-rows : goal.returns-in_err-rows
returns-in_err-rows c =
    let a = c.args in
    let p = err_from_is_err_and c.from_residual.result c.from_residual.ensures.1 in
    rw (p.1, p.2)
    (table-refused a.f a.table.now a.shape.now a.list.now a.new_table.now a.new_shape.now _ _
    (Table.tests_refuse (old_range a.f) a.table.now c.in_err-rows.field-0.0
    (c.in_err-rows.ensures ∙ ap (λ (g : Format). examine g a.table.now) c.old_range.ensures)))

pub examine_shape-requires : goal.examine_shape-requires
examine_shape-requires c = served c.args.f _ c.old_range-2.ensures c.requires

pub returns-in_err-entries : goal.returns-in_err-entries
returns-in_err-entries c =
    let a = c.args in
    let p = err_from_is_err_and c.from_residual-in_err-entries.result c.from_residual-in_err-entries.ensures.1 in
    rw (p.1, p.2)
    (shape-refused a.f a.table.now a.shape.now a.list.now a.new_table.now a.new_shape.now _ (table_passes (goal.at.returns-in_err-entries c).In_ok-rows).0 _ _
    (Shape.tests_refuse (old_range a.f) a.shape.now c.in_err-entries.field-0.0
    (c.in_err-entries.ensures ∙ ap (λ (g : Format). shape_reply g a.shape.now) c.old_range-2.ensures)))

pub convert_tested-requires : goal.convert_tested-requires
convert_tested-requires c =
    let table = table_passes (goal.at.convert_tested-requires c).In_ok-rows in
    let shape = shape_passes (goal.at.convert_tested-requires c).In_ok-entries in
    record {
      counted = record { served = c.requires; rows-counted = table.1; entries-counted = shape.1 };
      table_passes = table.0;
      shape_passes = shape.0;
    }
