-- The search stops at the first that is large enough. Assumes nothing.
use Rattle.std.proofs.Common.{◌∙◌, ap, take, leb, rules, tests}
use Rattle.std.proofs.lemmas.Iterator.{YieldsList-from_slice}
use Rattle.std.proofs.lemmas.Iterator.Search.{position_from_yields_List}
use Rattle.paper.specs.Refusals.{found}
use Rattle.typed.proofs.Firsts.{first_long, found_first}
use Rattle.typed.proofs.read.first_from.Goals as goal

pub returns : goal.returns
returns c =
    let a = c.args in
    let list = take a.n a.list.now in
    let stops = position_from_yields_List (leb a.bound) _ _ c.position.result c.position.ensures.ran (YieldsList-from_slice list cc)
    (λ x b q k. search (rules, tests)) in
    ap found stops ∙ found_first (leb a.bound) list a.n (first_long a.list.now a.n c.requires)
