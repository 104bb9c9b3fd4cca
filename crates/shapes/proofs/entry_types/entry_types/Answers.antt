-- The number of one entry's type more, or the first entry whose type has none. Assumes nothing.
use native.Mathlib.Omega.{arith}
use mathlib.Core.Path.{◌≡◌, ◌∙◌, ap}
use lib.ListN.{length-set}
use Rattle.paper.specs.Format.{entry_bytes, byte, whole}
use Rattle.tables.proofs.Rows.{rec, row_in}
use Rattle.shapes.proofs.Entries.{entry-size}
use Rattle.shapes.proofs.Numbers.{read_numbers, numbered_step, numbered_stop, numbered_end}
use Rattle.shapes.proofs.entry_types.entry_types.Goals as goal

pub record-entry-requires : goal.record-entry-requires
record-entry-requires c =
    let s = c.args.shape.now in
    let w = c.entry_bytes-w in
    row_in w.result c.loop-e.e s (omega (arith, c.requires.entries_value.0, ap (λ w. whole w s) w.ensures))

pub type_of-requires-clause-f_in_bounds : goal.type_of-requires-clause-f_in_bounds
type_of-requires-clause-f_in_bounds c =
    let a = c.args in
    let is : c.record-entry.result.now ≡ rec (entry_bytes a.f) c.loop-e.e a.shape.now = cc in
    let size = c.wide-size.ensures.0 ∙ ap (λ b. byte b 1) is in
    let (lo, hi) = entry-size a.f a.shape.now c.loop-e.e (omega arith) c.requires.shape_value in
    (omega (arith, c.record-entry.ensures.1, c.entry_bytes-w.ensures), omega (arith, size), omega (arith, size), omega arith)

pub returns-in_default : goal.returns-in_default
returns-in_default c =
    let a = c.args in
    let e = c.loop-e in
    let is : c.record-entry.result.now ≡ rec (entry_bytes a.f) e.e a.shape.now = cc in
    let number = read_numbers a.f a.shape.now a.parents.now a.labels.now a.count e.e c.record-entry.result.now c.wide-size.result a.count is
    c.wide-size.ensures.0 c.in_default.ensures.number in
    numbered_stop a.f a.shape.now a.parents.now a.labels.now a.count e.e e.types e.invariant.numbered (omega arith) a.count number (omega arith)

pub loop-e-preserved : goal.loop-e-preserved
loop-e-preserved c =
    let a = c.args in
    let e = c.loop-e in
    let k = c.in-Some.k in
    let is : c.record-entry.result.now ≡ rec (entry_bytes a.f) e.e a.shape.now = cc in
    let number = read_numbers a.f a.shape.now a.parents.now a.labels.now a.count e.e c.record-entry.result.now c.wide-size.result k is
    c.wide-size.ensures.0 c.in-Some.ensures.number in record {
      long = length-set e.types e.e k ∙ e.invariant.long;
      numbered = numbered_step a.f a.shape.now a.parents.now a.labels.now a.count e.e e.types e.invariant.numbered (omega arith) k number
          (omega arith) c.in-Some.ensures.listed;
    }

pub returns : goal.returns
returns c =
    let a = c.args in
    numbered_end a.f a.shape.now a.parents.now a.labels.now a.count c.loop-e.e c.loop-e.types c.loop-e.invariant.numbered
    a.entries c.requires.entries_value.0 (omega arith)
