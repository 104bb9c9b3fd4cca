-- `mark_lines`: the source list of the reshape marks the rows that the entry's lines show. Assumes nothing.
use Prim.Native.Nat.{ℕ}
use mathlib.Core.Path.{refl, ◌∙◌, ap}
use lib.ListN.{length, replicate, length-replicate}
use Rattle.paper.specs.Widths.{format_of}
use Rattle.paper.proofs.Refusals.{numbered}
use Rattle.totals.proofs.WidthBytes.{room_for_lines}
use Rattle.totals.proofs.Marked.{entry_few, lines_accepted, lines_fit, marks_lines}
use Rattle.totals.proofs.mark_lines.Goals as goal

-- it is never refused
pub returns-in_err-lines : goal.returns-in_err-lines
returns-in_err-lines c =
    let a = c.args in
    absurd (numbered c.in_err-lines.field-0.0 (lines_accepted (format_of a.width) a.table.now a.shape.now a.entry c.requires.0
    (replicate 114688 0) (replicate 4096 0) (room_for_lines a.width) c.in_err-lines.ensures))

pub mark_shown-requires : goal.mark_shown-requires
mark_shown-requires c =
    let a = c.args in
    let f = format_of a.width in (
      lines_fit f a.table.now a.shape.now a.entry c.requires.0
          (replicate 114688 0) (replicate 4096 0) (room_for_lines a.width) c.in_ok-lines.ensures,
      entry_few f a.table.now a.shape.now a.entry c.requires.0,
      ap length c.requires.1 ∙ length-replicate {A = ℕ} 1024 0,
    )

pub returns : goal.returns
returns c =
    let a = c.args in (
      refl,
      marks_lines (format_of a.width) a.table.now a.shape.now a.entry c.requires.0
          (replicate 114688 0) (replicate 4096 0) (room_for_lines a.width) c.in_ok-lines.ensures
          a.marks.now c.mark_shown.new.marks c.requires.1 c.mark_shown.ensures,
    )
