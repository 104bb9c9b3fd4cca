-- Every label within the length is tested at its place. Assumes nothing.
use Rattle.std.proofs.Common.{refl, ◌∙◌, get_or, arith, rules, tests}
use Rattle.std.proofs.lemmas.Iterator.{YieldsList-from_range}
use Rattle.std.proofs.lemmas.Iterator.Search.{all_from_yields_List}
use Rattle.paper.specs.Lists.{between}
use Rattle.paper.specs.Format.{words}
use Rattle.paper.proofs.Tables.{length-words}
use Rattle.shapes.proofs.Kept.{all_places}
use Rattle.shapes.proofs.entry.labels_within.Goals as goal

pub returns : goal.returns
returns c =
    let a = c.args in
    let labels = words a.f.levels a.entry.now 4 in
    all_from_yields_List (λ k. between 1 (get_or labels k 0) a.f.labels) _ _ _ c.all.ensures.ran (YieldsList-from_range 0 a.size a.size refl (omega arith))
    (λ x b q k. search (rules, tests))
    ∙ all_places (λ x. between 1 x a.f.labels) labels a.size 0 (omega (arith, length-words a.f.levels a.entry.now 4))
