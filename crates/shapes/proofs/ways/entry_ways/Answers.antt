-- One entry more is read. Assumes nothing.
use native.Mathlib.Omega.{arith}
use mathlib.Core.Path.{◌≡◌, refl, ap}
use Rattle.paper.specs.Format.{entry_bytes, whole}
use Rattle.tables.proofs.Rows.{rec, row_in}
use Rattle.shapes.proofs.Reading.{size-read, level-read, read_more}
use Rattle.shapes.proofs.ways.entry_ways.Goals as goal

pub record-entry-requires : goal.record-entry-requires
record-entry-requires c =
    let s = c.args.shape.now in
    let w = c.entry_bytes-w in
    row_in w.result c.loop-e.e s (omega (arith, c.requires.entries_value.0, ap (λ w. whole w s) w.ensures))

pub overflow_sub-size : goal.overflow_sub-size
overflow_sub-size c =
    let a = c.args in
    let is : c.record-entry.result.now ≡ rec (entry_bytes a.f) c.loop-e.e a.shape.now = cc in
    let fits = size-read a.f a.shape.now a.entries (c.requires.entries_value, c.requires.shape_value.0) c.loop-e.e (omega arith) c.record-entry.result.now is
    c.wide-size.result c.wide-size.ensures.0 in
    omega arith

pub component-requires : goal.component-requires
component-requires c =
    let a = c.args in
    let is : c.record-entry.result.now ≡ rec (entry_bytes a.f) c.loop-e.e a.shape.now = cc in
    let fits = size-read a.f a.shape.now a.entries (c.requires.entries_value, c.requires.shape_value.0) c.loop-e.e (omega arith) c.record-entry.result.now is
    c.wide-size.result c.wide-size.ensures.0 in
    (omega (arith, c.record-entry.ensures.1, c.entry_bytes-w.ensures), omega arith, omega (arith, c.requires.entries_value.2))

pub put_way-requires : goal.put_way-requires
put_way-requires c =
    let a = c.args in
    let is : c.record-entry.result.now ≡ rec (entry_bytes a.f) c.loop-e.e a.shape.now = cc in
    let (inside, lo, hi, first) = level-read a.f a.shape.now a.entries (c.requires.entries_value, c.requires.shape_value.0) c.loop-e.e (omega arith)
    c.record-entry.result.now is c.wide-l.result c.wide-l.ensures.0 in
    (c.loop-e.invariant.ways_long, inside, lo, hi, first)

pub parent_of-requires : goal.parent_of-requires
parent_of-requires c =
    let a = c.args in
    let is : c.record-entry.result.now ≡ rec (entry_bytes a.f) c.loop-e.e a.shape.now = cc in
    let (inside, lo, hi, first) = level-read a.f a.shape.now a.entries (c.requires.entries_value, c.requires.shape_value.0) c.loop-e.e (omega arith)
    c.record-entry.result.now is c.wide-l.result c.wide-l.ensures.0 in
    (omega (arith, c.loop-e.invariant.ways_long), inside, lo, hi)

pub loop-e-preserved : goal.loop-e-preserved
loop-e-preserved c =
    let a = c.args in
    let is : c.record-entry.result.now ≡ rec (entry_bytes a.f) c.loop-e.e a.shape.now = cc in
    let v = c.loop-e in
    read_more a.f a.shape.now a.entries (c.requires.entries_value, c.requires.shape_value.0) v.e (omega arith) c.record-entry.result.now is c.wide-l.result c.wide-l.ensures.0
    v.levels v.labels v.parents v.ways v.invariant _ c.put_way.ensures (omega (arith, v.invariant.ways_long)) _ _ _ c.wide-size.result
    refl c.wide-size.ensures.0 c.component.ensures.0 c.parent_of.ensures
