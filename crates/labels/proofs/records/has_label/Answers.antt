-- `records::has_label`: a label of the record is looked for place by place. Assumes nothing.
use native.Mathlib.Omega.{arith}
use mathlib.Core.Path.{refl, sym, ◌∙◌}
use lib.Dec.{eqb}
use lib.ListN.{get_or}
use Rattle.std.proofs.Common.{rules, tests}
use Rattle.std.proofs.lemmas.Iterator.{YieldsList-from_range}
use Rattle.std.proofs.lemmas.Iterator.Search.{any_from_yields_List}
use Rattle.paper.specs.Format.{words}
use Rattle.paper.proofs.Tables.{length-words}
use Rattle.labels.proofs.Ranged.{any_ranged}
use Rattle.labels.proofs.Standing.{next_word}
use Rattle.labels.proofs.records.has_label.Goals as goal

pub returns : goal.returns
returns c =
    let a = c.args in
    let labels = words a.n a.r.now a.from in
    let found = any_from_yields_List (λ k. eqb a.x (get_or labels k 0)) _ _ c.any.result c.any.ensures.ran (YieldsList-from_range 0 a.n a.n refl (omega arith))
    (λ x b q k. search (rules, tests)) in
    found ∙ any_ranged (eqb a.x) _ labels (λ k lt. (_, next_word a.n a.r.now a.from k (omega (arith, lt, length-words a.n a.r.now a.from)), refl)) a.n (sym (length-words a.n a.r.now a.from))
