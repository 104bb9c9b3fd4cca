-- `convert::occurs`: in the table, or in the shape. Assumes nothing.
use mathlib.Core.Path.{sym, ◌∙◌}
use Rattle.labels.proofs.Standing.{in_table, in_shape}
use Rattle.labels.proofs.convert.occurs.Goals as goal

pub returns-then-file_has : goal.returns-then-file_has
returns-then-file_has c =
    let a = c.args in
    c.if-file_has.true
    ∙ in_table a.f a.table.now a.shape.now a.x _ a.rows c.row_bytes.ensures c.requires.rows-counted (sym c.file_has.ensures ∙ c.if-file_has.true)

pub returns-else-file_has : goal.returns-else-file_has
returns-else-file_has c =
    let a = c.args in
    in_shape a.f a.table.now a.shape.now a.x _ a.rows c.row_bytes.ensures c.requires.rows-counted
    (sym c.file_has.ensures ∙ c.if-file_has.false) _ a.entries c.entry_bytes.ensures c.requires.entries-counted _ c.file_has-else-file_has.ensures
