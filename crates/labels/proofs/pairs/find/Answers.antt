-- `pairs::find`: the label is looked for pair by pair. Assumes nothing.
use Prim.Native.Nat.{◌+◌, ◌*◌}
use native.Mathlib.Omega.{arith}
use mathlib.Core.Path.{refl, sym, ◌∙◌}
use lib.Dec.{eqb}
use lib.ListN.{get_or, take}
use Rattle.std.proofs.Common.{rules, tests}
use Rattle.std.proofs.lemmas.Iterator.{YieldsList-from_range, serves_from_Range}
use Rattle.std.proofs.lemmas.Iterator.Search.{position_from_yields_List}
use Rattle.paper.specs.Labels.{pairs}
use Rattle.labels.specs.Pairs.{has}
use Rattle.labels.proofs.Listed.{counted, first-pairs, next_of_first, side_has}
use Rattle.labels.proofs.Ranged.{position_ranged}
use Rattle.labels.proofs.pairs.find.Goals as goal

pub position-requires-clause-callable : goal.position-requires-clause-callable
position-requires-clause-callable c = let count = counted c.args.list.now in serves_from_Range (λ x q h. search rules) (λ x lo hi. search rules)

pub returns : goal.returns
returns c =
    let a = c.args in
    let some = take a.n (pairs a.list.now) in
    let long = first-pairs a.list.now a.n c.requires.0 in
    let found = position_from_yields_List (λ i. eqb (get_or a.list.now (2 * i + a.side) 0) a.x) _ _ c.position.result c.position.ensures.ran
    (YieldsList-from_range 0 a.n a.n refl (omega arith)) (λ x b q k. search (rules, tests)) in
    found
    ∙ position_ranged (has a.side a.x) _ some
    (λ i lt. (_, next_of_first a.list.now a.n c.requires.0 i (omega (arith, lt, long)), sym (side_has a.list.now i a.side a.x _ c.requires.1 refl))) a.n (sym long)
