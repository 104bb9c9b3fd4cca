-- `convert::first_bad`: a pair that breaks a rule is looked for. Assumes nothing.
use native.Mathlib.Omega.{arith}
use mathlib.Core.Path.{refl}
use Rattle.std.proofs.Common.{rules, tests}
use Rattle.std.proofs.lemmas.Iterator.{YieldsList-from_range}
use Rattle.std.proofs.lemmas.Iterator.Search.{position_from_yields_List}
use Rattle.labels.specs.Records.{standing}
use Rattle.labels.proofs.Kept.{breaks, first_break_is}
use Rattle.labels.proofs.convert.first_bad.Goals as goal

pub returns : goal.returns
returns c =
    let a = c.args in
    let labels = standing a.f a.table.now a.shape.now in
    let n = c.count_pairs.result in
    let stops = position_from_yields_List (breaks a.f labels a.list.now) _ _ c.position.result c.position.ensures.ran
    (YieldsList-from_range 0 n n refl (omega arith)) (λ x b q k. search (rules, tests)) in
    first_break_is a.f labels a.list.now n c.count_pairs.ensures _ stops
