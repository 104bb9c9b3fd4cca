-- `mark_rows`: the summary says whether all rows of the type are shown, or none; else the lines say which. Assumes nothing.
use mathlib.Core.Path.{refl}
use native.Mathlib.Omega.{arith}
use Rattle.std.specs.Prelude.{Ok}
use Rattle.paper.specs.Widths.{format_of}
use Rattle.reshaping.specs.Reshaped.{summarised}
use Rattle.totals.proofs.Marked.{entry_few, marks_all, marks_none_shown}
use Rattle.totals.proofs.mark_rows.Goals as goal

pub offset_bounds-all-entry : goal.offset_bounds-all-entry
offset_bounds-all-entry c =
    let a = c.args in
    record { fits = omega (arith, entry_few (format_of a.width) a.table.now a.shape.now a.entry c.requires.has_entry.0) }

pub bounds-all-entry : goal.bounds-all-entry
bounds-all-entry c = let a = c.args in entry_few (format_of a.width) a.table.now a.shape.now a.entry c.requires.has_entry.0

pub offset_bounds-shown-entry : goal.offset_bounds-shown-entry
offset_bounds-shown-entry c =
    let a = c.args in
    record { fits = omega (arith, entry_few (format_of a.width) a.table.now a.shape.now a.entry c.requires.has_entry.0) }

pub bounds-shown-entry : goal.bounds-shown-entry
bounds-shown-entry c = let a = c.args in entry_few (format_of a.width) a.table.now a.shape.now a.entry c.requires.has_entry.0

pub returns-then-different-rows : goal.returns-then-different-rows
returns-then-different-rows c =
    let a = c.args in (
      refl,
      marks_all (format_of a.width) a.table.now a.shape.now a.entry c.requires.has_entry.0 (summarised (Ok a.summary)) c.requires.summary_value
          c.if-different-rows.true a.marks.now c.mark_all.new.marks c.requires.has_entry.1 c.mark_all.ensures,
    )

pub returns-else-different-ne0 : goal.returns-else-different-ne0
returns-else-different-ne0 c =
    let a = c.args in (
      refl,
      marks_none_shown (format_of a.width) a.table.now a.shape.now a.entry c.requires.has_entry.0 (summarised (Ok a.summary)) c.requires.summary_value
          c.if-different-ne0.false a.marks.now c.requires.has_entry.1,
    )
