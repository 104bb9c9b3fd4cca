-- `labels::row_labels` meets its contract. Assumes nothing.
use mathlib.Core.Path.{◌≡◌}
use lib.ListN.{length}
use Rattle.paper.specs.Tables.{row_types}
use Rattle.paper.specs.Tables as Tables
use Rattle.indexes.specs.Labels.{LabelLists}
use Rattle.indexes.proofs.labels.row_labels.Given as goal

abbrev pub invariant-loop-i : goal.invariant-loop-i
invariant-loop-i l = (length l.labels ≡ length l.fn.labels) × LabelLists l.i (row_types (Tables.rows l.f l.table)) l.labels
