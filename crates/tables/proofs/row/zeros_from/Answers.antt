-- `row::zeros_from`: what is left to look at decides. Assumes nothing.
use Prim.Native.Nat.{◌<◌}
use mathlib.Core.Path.{sym, ◌∙◌}
use lib.ListN.{length}
use Rattle.paper.specs.Format.{words}
use Rattle.paper.proofs.Tables.{length-words}
use Rattle.tables.proofs.Laws.{zeros-stop, zeros-step, zeros_end}
use native.Mathlib.Omega.{arith}
use Rattle.tables.proofs.row.zeros_from.Goals as goal

pub returns-then-component-ne0 : goal.returns-then-component-ne0
returns-then-component-ne0 c =
    let ws = words c.args.f.levels c.args.row.now 4 in
    let lt : c.loop-i.i < length ws = omega (arith, length-words c.args.f.levels c.args.row.now 4) in
    sym (zeros-stop ws c.loop-i.i c.component.result lt c.component.ensures.0 c.if-component-ne0.true) ∙ c.loop-i.invariant

pub loop-i-preserved : goal.loop-i-preserved
loop-i-preserved c =
    let ws = words c.args.f.levels c.args.row.now 4 in
    let lt : c.loop-i.i < length ws = omega (arith, length-words c.args.f.levels c.args.row.now 4) in
    sym (zeros-step ws c.loop-i.i c.component.result lt c.component.ensures.0 c.if-component-ne0.false) ∙ c.loop-i.invariant

pub returns : goal.returns
returns c =
    let ws = words c.args.f.levels c.args.row.now 4 in
    sym (zeros_end ws c.loop-i.i (omega (arith, length-words c.args.f.levels c.args.row.now 4))) ∙ c.loop-i.invariant
