-- `labels::row_labels` meets its contract. Assumes nothing.
use Prim.Native.Nat.{ℕ, ◌<◌}
use native.Mathlib.Omega.{arith}
use mathlib.Core.Path.{◌≡◌}
use mathlib.Core.List.{List}
use Rattle.paper.specs.Format.{Format, row_bytes, byte, word, whole}
use Rattle.paper.proofs.Calls.{count-rows}
use Rattle.tables.proofs.Rows.{rec, row_in}
use Rattle.types.proofs.Listed.{l_pos, l_fits}
use Rattle.closest.specs.Runs.{SoundRows}
use Rattle.indexes.proofs.Labelled.{first-level, labels-more}
use Rattle.indexes.proofs.labels.row_labels.Goals as goal

-- a row of the table, by the number of its rows
in_table : {f : Format} {rows : ℕ} {t : List ℕ} {i : ℕ} → SoundRows f rows t → i < rows → i < whole (row_bytes f) t
in_table {f} {rows} {t} s lt = omega (arith, s.rows_n, count-rows f t)

pub record-row-requires : goal.record-row-requires
record-row-requires c =
    row_in c.row_bytes.result c.loop-i.i c.args.table.now (rw c.row_bytes.ensures (in_table c.requires.0 c.loop-i-test.true))

pub put_labels-requires : goal.put_labels-requires
put_labels-requires c =
    let kept = c.requires.0.sound.kept in
    let lt = in_table c.requires.0 c.loop-i-test.true in
    let level-is : c.wide-l.result ≡ byte (rec (row_bytes c.args.f) c.loop-i.i c.args.table.now) 0 = cc in
    let label_is : c.word-a.result ≡ word (rec (row_bytes c.args.f) c.loop-i.i c.args.table.now) 2 = cc in (
      l_pos _ _ kept _ lt _ _ level-is label_is,
      omega (arith, l_fits _ _ kept _ lt _ _ level-is label_is, c.requires.1),
      omega (arith, c.requires.2, c.loop-i.invariant.0, c.loop-i-test.true),
      λ e. omega (arith, level-is, first-level _ _ kept c.loop-i.i lt e),
    )

pub loop-i-preserved : goal.loop-i-preserved
loop-i-preserved c =
    let lt = in_table c.requires.0 c.loop-i-test.true in
    let level-is : c.wide-l.result ≡ byte (rec (row_bytes c.args.f) c.loop-i.i c.args.table.now) 0 = cc in
    let label_is : c.word-a.result ≡ word (rec (row_bytes c.args.f) c.loop-i.i c.args.table.now) 2 = cc in (
      omega arith,
      labels-more _ _ c.requires.0.sound.kept c.requires.1 c.loop-i.i lt _ _ c.loop-i.invariant.1 _ _ level-is label_is c.put_labels.ensures,
    )
