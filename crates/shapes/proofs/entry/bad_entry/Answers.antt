-- The search for the first break, entry by entry. Assumes nothing.
use native.Mathlib.Omega.{arith}
use mathlib.Core.Path.{sym, ◌∙◌, ap}
use Rattle.paper.specs.Format.{whole}
use Rattle.tables.proofs.Rows.{row_in}
use Rattle.shapes.proofs.Breaks.{search_start, search_stop, search_step, search_end}
use Rattle.shapes.proofs.entry.bad_entry.Goals as goal

pub loop-e-init : goal.loop-e-init
loop-e-init c = search_start c.args.f c.args.shape.now

pub record-entry-requires : goal.record-entry-requires
record-entry-requires c =
    let s = c.args.shape.now in
    let w = c.entry_bytes-w in
    row_in w.result c.loop-e.e s (omega (arith, c.requires.0, ap (λ w. whole w s) w.ensures))

pub returns-then-not-entry_kept : goal.returns-then-not-entry_kept
returns-then-not-entry_kept c =
    let a = c.args in
    let stop = search_stop a.f a.shape.now a.entries c.requires.0 c.loop-e.before c.loop-e.e c.loop-e.invariant (omega arith) c.record-entry.result.now cc in
    (sym (stop (sym c.entry_kept.ensures ∙ c.if-not-entry_kept.true)), omega arith)

pub loop-e-preserved : goal.loop-e-preserved
loop-e-preserved c =
    let a = c.args in
    let step = search_step a.f a.shape.now a.entries c.requires.0 c.loop-e.before c.loop-e.e c.loop-e.invariant (omega arith) c.record-entry.result.now cc in
    step (sym c.entry_kept.ensures ∙ c.if-not-entry_kept.false) c.wide-before.result c.wide-before.ensures.0 (omega arith)

pub returns : goal.returns
returns c =
    let a = c.args in
    (sym (search_end a.f a.shape.now a.entries c.requires.0 c.loop-e.before c.loop-e.e c.loop-e.invariant (omega arith)), tt)
