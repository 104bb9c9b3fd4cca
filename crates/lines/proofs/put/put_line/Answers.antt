-- `put_line`: the parts of the record are written one after the other, and the position over its place in the number. Assumes nothing.
use Rattle.std.proofs.Common.{◌≡◌, ◌*◌, ℕ, arith, ap}
use Rattle.paper.specs.Format.{Format, row_bytes}
use Rattle.octets.proofs.Writing.{two_written}
use Rattle.lines.proofs.Line.{row_within, line_written}
use Rattle.lines.proofs.put.put_line.Goals as goal

-- The width is a record's, at the row and at the line's place.
widths : (f : Format) (w r place : ℕ) → w ≡ row_bytes f → (w * r ≡ row_bytes f * r) × (w * place ≡ row_bytes f * place)
widths f w r place e = (ap (λ n. n * r) e, ap (λ n. n * place) e)

pub overflow_mul-width : goal.overflow_mul-width
overflow_mul-width c = rw c.row_bytes-width.ensures (omega (arith, row_within c.args.f c.args.table.now c.args.r c.requires.row_in))

pub overflow_add-width : goal.overflow_add-width
overflow_add-width c = rw c.row_bytes-width.ensures (omega (arith, row_within c.args.f c.args.table.now c.args.r c.requires.row_in))

pub value_at-value-requires : goal.value_at-value-requires
value_at-value-requires c = rw c.row_bytes-width.ensures (omega (arith, row_within c.args.f c.args.table.now c.args.r c.requires.row_in))

pub returns : goal.returns
returns c =
    let a = c.args in
    let u = widths a.f _ a.r a.place c.row_bytes-width.ensures in
    line_written a.f a.table.now a.r c.requires.row_in
    a.level a.label a.number a.at a.position (omega (arith, c.ranges, c.requires)) c.requires.at_in (omega (arith, c.ranges, c.requires))
    a.new.now _ c.put_word.new.new c.put_number.new.new c.put_word-2.new.new c.put_value.new.new _ _ _ _ _ _ _
    (omega (arith, u)) (omega (arith, u)) (omega (arith, u)) (omega (arith, u)) (omega (arith, u, c.row_bytes-width.ensures))
    (two_written a.new.now _ _ _ _ _ _ (omega (arith, u)) (omega arith) (omega arith)) c.put_word.ensures c.put_number.ensures
    c.put_word-2.ensures c.put_value.ensures c.value_at-value.ensures (omega (arith, u, c.row_bytes-width.ensures))
