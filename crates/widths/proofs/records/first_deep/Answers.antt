-- `records::first_deep`: a record that is too deep is looked for. Assumes nothing.
use Prim.Native.Nat.{ℕ}
use mathlib.Core.Path.{◌≡◌}
use mathlib.Core.Bool.{true, false}
use Rattle.std.proofs.Common.{rules, tests}
use Rattle.std.proofs.lemmas.Iterator.{first_from_Range}
use Rattle.tables.proofs.Rows.{rec}
use Rattle.widths.specs.Moves.{record_deep}
use Rattle.widths.proofs.First.{first_record}
use Rattle.widths.proofs.records.first_deep.Goals as goal

pub returns : goal.returns
returns c =
    let a = c.args in
    let deep = λ (i : ℕ). record_deep a.levels (rec a.w i a.b.now) in
    let stops = first_from_Range _ _ _ c.find.result (λ i. deep i ≡ true) (λ i. deep i ≡ false) c.find.ensures.ran
    (λ x q k. search (rules, tests)) (λ x q k. search (rules, tests)) in
    first_record (record_deep a.levels) a.w a.count a.b.now _ stops
