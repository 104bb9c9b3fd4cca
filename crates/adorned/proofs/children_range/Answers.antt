-- `children_range`: the first row of the parent type opens the walk, and after it the range is that of all counts. Assumes nothing.
use native.Mathlib.Omega.{arith}
use mathlib.Core.Path.{sym, ◌∙◌}
use lib.Dec.{eqb}
use lib.ListN.{take}
use lib.Seq.{length-take-le}
use Rattle.std.proofs.Common.{rules, tests}
use Rattle.std.proofs.lemmas.Grind.{common_steps}
use Rattle.std.proofs.lemmas.Iterator.{YieldsList-from_slice}
use Rattle.std.proofs.lemmas.Iterator.Search.{position_from_yields_List}
use Rattle.adorned.proofs.Walks.{walk_start, walk_none, walk_turn, walk_end}
use Rattle.adorned.proofs.children_range.Goals as goal

pub returns-in_default : goal.returns-in_default
returns-in_default c =
    let a = c.args in
    let l = take a.rows a.types.now in
    let stops = position_from_yields_List (λ x. eqb x a.p) _ _ c.position.result c.position.ensures.ran (YieldsList-from_slice l cc)
    (λ x b q k. search (rules, tests)) in
    walk_none a.p a.k l (sym stops ∙ c.in_default.is)

pub loop-i-init : goal.loop-i-init
loop-i-init c =
    let a = c.args in
    let l = take a.rows a.types.now in
    let stops = position_from_yields_List (λ x. eqb x a.p) _ _ c.position.result c.position.ensures.ran (YieldsList-from_slice l cc)
    (λ x b q k. search (rules, tests)) in
    walk_start a.p a.k l c.in-Some.first (sym stops ∙ c.in-Some.is)

pub loop-i-preserved : goal.loop-i-preserved
loop-i-preserved c =
    let a = c.args in
    let v = c.loop-i in
    walk_turn a.rows a.types.now a.p a.k v.r c.if-x-p.r v.c c.if-x-p.c v.i _ v.invariant c.requires c.loop-i-test.true c.wide-x.ensures.0
    (λ e. grind (arith, common_steps)) (λ np e. grind (arith, common_steps)) (λ np nk. grind (arith, common_steps))

pub returns : goal.returns
returns c =
    let a = c.args in
    walk_end (take a.rows a.types.now) a.p a.k c.loop-i.r c.loop-i.c c.loop-i.i c.loop-i.invariant
    (omega (arith, c.loop-i-test.false, length-take-le a.rows a.types.now c.requires)) _ c.with_count-2.ensures
