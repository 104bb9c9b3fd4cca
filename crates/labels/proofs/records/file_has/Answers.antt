-- `records::file_has`: a record that has the label is looked for. Assumes nothing.
use native.Mathlib.Omega.{arith}
use mathlib.Core.Path.{refl, sym, ◌∙◌}
use mathlib.Core.List.{List}
use lib.Dec.{eqb}
use Rattle.std.proofs.Common.{rules, tests}
use Rattle.std.proofs.lemmas.Iterator.{YieldsList-from_range}
use Rattle.std.proofs.lemmas.Iterator.Search.{any_from_yields_List}
use Rattle.paper.specs.Format.{words, records}
use Rattle.tables.proofs.Rows.{rec}
use Rattle.tables.proofs.Walks.{count-records, next_record}
use Rattle.labels.specs.Records.{has_label}
use Rattle.labels.proofs.Ranged.{any_ranged}
use Rattle.labels.proofs.Standing.{any_join}
use Rattle.labels.proofs.records.file_has.Goals as goal

pub returns : goal.returns
returns c =
    let a = c.args in
    let all = records a.w a.count a.b.now in
    let long = count-records a.w a.count a.b.now in
    let found = any_from_yields_List (λ i. has_label a.from a.n a.x (rec a.w i a.b.now)) _ _ c.any.result c.any.ensures.ran
    (YieldsList-from_range 0 a.count a.count refl (omega arith)) (λ x b q k. search (rules, tests)) in
    found ∙ any_ranged (has_label a.from a.n a.x) _ all (λ i lt. (_, next_record a.w a.count a.b.now i (omega (arith, lt, long)), refl)) a.count (sym long)
    ∙ sym (any_join (eqb a.x) (λ (r : List _). words a.n r a.from) all)
