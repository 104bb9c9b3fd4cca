-- `sum_rows`: the reshape to the entry alone lists the rows of its type, and these are added up. Assumes nothing.
use Prim.Native.Nat.{ℕ, ◌+◌, ◌*◌, ◌≤◌}
use mathlib.Core.Path.{◌≡◌, sym, ◌∙◌, ap, subst}
use mathlib.Core.List.{List, ◌∷◌}
use lib.IntN.{pos}
use lib.ListN.{length, take, drop, replicate}
use lib.Seq.{length-take-le}
use native.Mathlib.Omega.{arith}
use Rattle.paper.specs.Widths.{format_of}
use Rattle.paper.specs.Calls.{Reply, Work, given, tests1_7, room_in}
use Rattle.paper.proofs.Refusals.{numbered}
use Rattle.reshaping.specs.Reshaped.{Reshapes}
use Rattle.totals.specs.Tape.{type_rows}
use Rattle.totals.specs.Rows.{RowsOf, value_at, is_marked, added_up}
use Rattle.totals.proofs.Passed.{passed}
use Rattle.totals.proofs.Alone.{places}
use Rattle.totals.proofs.WidthBytes.{entry_most, room_for_rows}
use Rattle.totals.proofs.Listed.{Listed, entry_in, rows_of, listed}
use Rattle.totals.proofs.sum_rows.Goals as goal
use Rattle.totals.proofs.sum_rows.Goals.{After-put_alone}

-- what the reshape leaves, for a tape that passes 1 to 7
rows_listed : (c : After-put_alone) (w : Work) → tests1_7 (format_of c.args.width) c.args.table.now c.args.shape.now ≡ given w
    → {r : Reply ℕ} {new' sources' : List ℕ}
    → Reshapes (format_of c.args.width) c.args.table.now (take c.entry_bytes-bytes.result c.put_alone.new.alone)
    (replicate 28672 0) (replicate 1024 0) r new' sources'
    → Listed w c.args.entry r sources'
rows_listed c w h x =
    let f = format_of c.args.width in
    let t = c.args.table.now in
    let sb = c.args.shape.now in
    let room : 1024 ≤ room_in f (replicate 28672 0) (replicate 1024 0) = omega (arith, room_for_rows c.args.width) in
    let is-alone = c.put_alone.ensures ∙ ap (λ n. 1 ∷ drop 1 (take n (drop (n * c.args.entry) sb))) c.entry_bytes-bytes.ensures in
    listed f t sb w (passed f t sb w h) c.args.entry c.requires.0.inside (replicate 28672 0) (replicate 1024 0) room
    (take c.entry_bytes-bytes.result c.put_alone.new.alone) is-alone x

pub put_alone-requires : goal.put_alone-requires
put_alone-requires c =
    let a = c.args in
    let bytes = c.entry_bytes-bytes.ensures in (
      subst (λ n. n * a.entry + n ≤ length a.shape.now) (sym bytes) (entry_in (format_of a.width) a.shape.now a.entry c.requires.0.inside),
      omega (arith, bytes),
      omega (arith, bytes, entry_most a.width),
    )

pub slice_bounds-alone-end : goal.slice_bounds-alone-end
slice_bounds-alone-end c = omega (arith, c.entry_bytes-bytes.ensures, entry_most c.args.width, c.put_alone.auto.alone)

pub slice_bounds-reshape-end : goal.slice_bounds-reshape-end
slice_bounds-reshape-end c =
    sym (length-take-le c.entry_bytes-bytes.result c.put_alone.new.alone
    (omega (arith, c.entry_bytes-bytes.ensures, entry_most c.args.width, c.put_alone.auto.alone)))

-- it is never refused
pub returns-in_err-rows : goal.returns-in_err-rows
returns-in_err-rows c w h =
    absurd (numbered c.in_err-rows.field-0.0 (rows_listed (goal.at.returns-in_err-rows c).After-put_alone w h c.in_err-rows.ensures).accepted)

pub add_up-requires-clause-count_in_bounds : goal.add_up-requires-clause-count_in_bounds
add_up-requires-clause-count_in_bounds c =
    let has = c.requires.0 in
    let rows = rows_listed (goal.at.add_up-requires-clause-count_in_bounds c).After-put_alone has.work has.passes1_7 c.in_ok-rows.ensures in (
      rows.long,
      rows.few,
      c.requires.1,
      omega (arith, c.entry_bytes-bytes.ensures, c.row_bytes.ensures),
      omega (arith, c.row_bytes.ensures, entry_most c.args.width),
    )

pub add_up-requires-clause-rows_of : goal.add_up-requires-clause-rows_of
add_up-requires-clause-rows_of c =
    let f = format_of c.args.width in
    let t = c.args.table.now in
    let sb = c.args.shape.now in
    let has = c.requires.0 in
    let rows = rows_listed (goal.at.add_up-requires-clause-rows_of c).After-put_alone has.work has.passes1_7 c.in_ok-rows.ensures in
    subst (λ is. RowsOf c.row_bytes.result t is) (sym rows.rows_are)
    (subst (λ n. RowsOf n t (places (type_rows has.work c.args.entry))) (sym c.row_bytes.ensures)
    (rows_of f t sb has.work (passed f t sb has.work has.passes1_7) c.args.entry))

pub returns : goal.returns
returns c w h =
    let rows = rows_listed (goal.at.returns c).After-put_alone w h c.in_ok-rows.ensures in
    c.add_up.ensures
    ∙ (λ i. added_up (value_at (c.row_bytes.ensures i) (c.entry_bytes-bytes.ensures i) c.args.table.now)
    (is_marked c.args.marks.now) (rows.rows_are i) (pos 0) (pos 0))
