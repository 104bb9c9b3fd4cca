-- `table::row_kept`: each test decides one rule. Assumes nothing.
use native.Mathlib.Omega.{arith}
use mathlib.Core.Path.{sym, ◌∙◌}
use Rattle.paper.specs.Tables.{row_of, dewey}
use Rattle.tables.proofs.Laws.{fields_level}
use Rattle.tables.proofs.Rows.{kept_fields, kept_follows}
use Rattle.tables.proofs.table.row_kept.Goals as goal

pub returns-then-not-fields_kept : goal.returns-then-not-fields_kept
returns-then-not-fields_kept c =
    let a = c.args in
    let broken = sym c.fields_kept.ensures ∙ c.if-not-fields_kept.true in
    sym (kept_fields a.f (dewey (row_of a.f a.before.now)) (row_of a.f a.row.now) broken)

pub follows-requires : goal.follows-requires
follows-requires c =
    let a = c.args in
    let l = fields_level a.f a.row.now (sym c.fields_kept.ensures ∙ c.if-not-fields_kept.false) in
    omega arith

pub returns : goal.returns
returns c =
    let a = c.args in
    let kept = sym c.fields_kept.ensures ∙ c.if-not-fields_kept.false in
    c.follows.ensures ∙ sym (kept_follows a.f (dewey (row_of a.f a.before.now)) (row_of a.f a.row.now) kept)
