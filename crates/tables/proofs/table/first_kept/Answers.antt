-- `table::first_kept`: each test decides one rule. Assumes nothing.
use native.Mathlib.Omega.{arith}
use mathlib.Core.Path.{◌≡◌, sym, ◌∙◌}
use mathlib.Core.Bool.{true}
use mathlib.Core.List.{[]}
use Rattle.paper.specs.Tables.{row_of, fields_kept}
use Rattle.tables.proofs.Laws.{fields_level}
use Rattle.tables.proofs.Rows.{kept_fields, first-deep, first_decides}
use Rattle.tables.proofs.table.first_kept.Goals as goal
use Rattle.tables.proofs.table.first_kept.Goals.{Else-not-fields_kept}

-- the row's own fields keep the rules
kept : (c : Else-not-fields_kept) → fields_kept c.args.f (row_of c.args.f c.args.row.now) ≡ true
kept c = sym c.fields_kept.ensures ∙ c.if-not-fields_kept.false

pub returns-then-not-fields_kept : goal.returns-then-not-fields_kept
returns-then-not-fields_kept c =
    let a = c.args in
    sym (kept_fields a.f [] (row_of a.f a.row.now) (sym c.fields_kept.ensures ∙ c.if-not-fields_kept.true))

pub returns-then-wide-ne1 : goal.returns-then-wide-ne1
returns-then-wide-ne1 c =
    let a = c.args in
    sym (first-deep a.f a.row.now (kept (goal.at.returns-then-wide-ne1 c).Else-not-fields_kept) (λ q. c.if-wide-ne1.true (c.wide.ensures.0 ∙ q)))

pub component-requires : goal.component-requires
component-requires c =
    let a = c.args in
    let l = fields_level a.f a.row.now (kept (goal.at.component-requires c).Else-not-fields_kept) in
    omega arith

pub returns : goal.returns
returns c =
    let a = c.args in
    first_decides a.f a.row.now (kept (goal.at.returns c).Else-not-fields_kept) (sym c.wide.ensures.0 ∙ c.if-wide-ne1.false) c.component.result c.component.ensures.0
