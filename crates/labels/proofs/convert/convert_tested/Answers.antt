-- `convert::convert_tested`: each test decides one refusal, then both files are written. Assumes nothing.
use Prim.Native.Nat.{ℕ, ◌*◌, ◌≤◌}
use native.Mathlib.Nat.{mul-div-le}
use native.Mathlib.Omega.{arith}
use mathlib.Core.Path.{◌≡◌, sym, ◌∙◌, ap}
use mathlib.Core.List.{List}
use lib.ListN.{length}
use Rattle.paper.specs.Format.{whole}
use Rattle.labels.proofs.Answers.{row-place, entry_place, refused_25, refused-row, refused-entry, refused-table, refused-shape, accepted}
use Rattle.labels.proofs.convert.convert_tested.Goals as goal

-- Whole records of w bytes lie within what is lent, where that is as long as the file.
within : (w n : ℕ) (b lent : List ℕ) → n ≡ whole w b → length b ≤ length lent → w * n ≤ length lent
within w n b lent e room = omega (arith, ap (λ k. w * k) e, mul-div-le (length b) w, room)

pub returns-in-Some : goal.returns-in-Some
returns-in-Some c = refused_25 _ _ _ _ _ _ _ _ c.requires c.in-Some.pair c.in-Some.ensures

pub first_unlisted-requires : goal.first_unlisted-requires
first_unlisted-requires c =
    let w = c.row_bytes-w.ensures in
    let levels = c.requires.counted.served.shallow in
    (omega (arith, w), omega (arith, w, levels), c.requires.counted.rows-counted ∙ ap (λ n. whole n c.args.table.now) (sym w))

pub returns-in-Some-first_unlisted : goal.returns-in-Some-first_unlisted
returns-in-Some-first_unlisted c =
    let row = row-place _ _ _ _ c.args.new_table.now c.args.new_shape.now _ _ c.requires _ _ c.row_bytes-w.ensures c.in-Some-first_unlisted.ensures in
    refused-row _ _ _ _ _ _ _ _ c.requires c.in_default.ensures c.in-Some-first_unlisted.row row

pub first_unlisted-requires-2 : goal.first_unlisted-requires-2
first_unlisted-requires-2 c =
    let w = c.entry_bytes-v.ensures in
    let levels = c.requires.counted.served.shallow in
    (omega (arith, w), omega (arith, w, levels), c.requires.counted.entries-counted ∙ ap (λ n. whole n c.args.shape.now) (sym w))

pub returns-in-Some-first_unlisted-2 : goal.returns-in-Some-first_unlisted-2
returns-in-Some-first_unlisted-2 c =
    let row = row-place _ _ _ _ c.args.new_table.now c.args.new_shape.now _ _ c.requires _ _ c.row_bytes-w.ensures c.in_default-first_unlisted.ensures in
    let entry = entry_place _ _ _ _ c.args.new_table.now c.args.new_shape.now _ _ c.requires _ _ c.entry_bytes-v.ensures c.in-Some-first_unlisted-2.ensures in
    refused-entry _ _ _ _ _ _ _ _ c.requires c.in_default.ensures row c.in-Some-first_unlisted-2.entry entry

pub returns-then-new_table-table : goal.returns-then-new_table-table
returns-then-new_table-table c =
    let row = row-place _ _ _ _ c.args.new_table.now c.args.new_shape.now _ _ c.requires _ _ c.row_bytes-w.ensures c.in_default-first_unlisted.ensures in
    let entry = entry_place _ _ _ _ c.args.new_table.now c.args.new_shape.now _ _ c.requires _ _ c.entry_bytes-v.ensures c.in_default-first_unlisted-2.ensures in
    refused-table _ _ _ _ _ _ _ _ c.requires c.in_default.ensures row entry c.if-new_table-table.true

pub returns-then-new_shape-shape : goal.returns-then-new_shape-shape
returns-then-new_shape-shape c =
    let row = row-place _ _ _ _ c.args.new_table.now c.args.new_shape.now _ _ c.requires _ _ c.row_bytes-w.ensures c.in_default-first_unlisted.ensures in
    let entry = entry_place _ _ _ _ c.args.new_table.now c.args.new_shape.now _ _ c.requires _ _ c.entry_bytes-v.ensures c.in_default-first_unlisted-2.ensures in
    refused-shape _ _ _ _ _ _ _ _ c.requires c.in_default.ensures row entry c.if-new_shape-shape.true

pub put_records-requires : goal.put_records-requires
put_records-requires c =
    let w = c.row_bytes-w.ensures in
    let levels = c.requires.counted.served.shallow in
    let counted = c.requires.counted.rows-counted ∙ ap (λ n. whole n c.args.table.now) (sym w) in
    (omega (arith, w), omega (arith, w, levels), counted, within _ _ c.args.table.now c.args.new_table.now counted c.if-new_table-table.false)

pub put_records-requires-2 : goal.put_records-requires-2
put_records-requires-2 c =
    let w = c.entry_bytes-v.ensures in
    let levels = c.requires.counted.served.shallow in
    let counted = c.requires.counted.entries-counted ∙ ap (λ n. whole n c.args.shape.now) (sym w) in
    (omega (arith, w), omega (arith, w, levels), counted, within _ _ c.args.shape.now c.args.new_shape.now counted c.if-new_shape-shape.false)

pub returns : goal.returns
returns c =
    let row = row-place _ _ _ _ c.args.new_table.now c.args.new_shape.now _ _ c.requires _ _ c.row_bytes-w.ensures c.in_default-first_unlisted.ensures in
    let entry = entry_place _ _ _ _ c.args.new_table.now c.args.new_shape.now _ _ c.requires _ _ c.entry_bytes-v.ensures c.in_default-first_unlisted-2.ensures in
    accepted _ _ _ _ _ _ _ _ c.requires c.in_default.ensures row entry c.if-new_table-table.false c.if-new_shape-shape.false _ _
    c.row_bytes-w.ensures c.entry_bytes-v.ensures _ _ c.put_records.ensures c.put_records-2.ensures
