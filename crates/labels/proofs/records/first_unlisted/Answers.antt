-- `records::first_unlisted`: a record that has one is looked for. Assumes nothing.
use native.Mathlib.Omega.{arith}
use mathlib.Core.Path.{refl, sym, ◌∙◌, ap}
use Rattle.std.proofs.Common.{rules, tests}
use Rattle.std.proofs.lemmas.Iterator.{YieldsList-from_range}
use Rattle.std.proofs.lemmas.Iterator.Search.{position_from_yields_List}
use Rattle.paper.specs.Lists.{place}
use Rattle.paper.specs.Format.{records}
use Rattle.paper.specs.Labels.{pairs}
use Rattle.paper.specs.Refusals.{found}
use Rattle.tables.specs.Place.{place_of}
use Rattle.tables.proofs.Rows.{rec}
use Rattle.tables.proofs.Walks.{count-records, next_record}
use Rattle.labels.specs.Records.{any_unlisted}
use Rattle.labels.proofs.Ranged.{position_ranged, found_place}
use Rattle.labels.proofs.records.first_unlisted.Goals as goal

pub returns : goal.returns
returns c =
    let a = c.args in
    let all = records a.w a.count a.b.now in
    let long = count-records a.w a.count a.b.now in
    let test = any_unlisted a.f (pairs a.list.now) a.from a.n in
    let stops = position_from_yields_List (λ i. test (rec a.w i a.b.now)) _ _ c.position.result c.position.ensures.ran
    (YieldsList-from_range 0 a.count a.count refl (omega arith)) (λ x b q k. search (rules, tests)) in
    ap found (stops ∙ position_ranged test _ all (λ i lt. (_, next_record a.w a.count a.b.now i (omega (arith, lt, long)), refl)) a.count (sym long))
    ∙ found_place test all ∙ ap (place_of (place test all)) long
