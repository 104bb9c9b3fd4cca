-- `row::fields_kept`: each test decides one rule. Assumes nothing.
use mathlib.Core.Path.{sym, ◌∙◌, ap}
use native.Mathlib.Omega.{arith}
use lib.Dec.{eqb}
use lib.ListN.{drop}
use Rattle.paper.specs.Lists.{all}
use Rattle.paper.specs.Format.{words}
use Rattle.tables.proofs.Laws.{no_level, too_deep, spare_set, no_label, no_such_label, zeros_decide}
use Rattle.tables.proofs.row.fields_kept.Goals as goal

pub returns-then-level-lt1 : goal.returns-then-level-lt1
returns-then-level-lt1 c = let a = c.args in sym (no_level a.f a.row.now (omega arith))

pub returns-then-f-level : goal.returns-then-f-level
returns-then-f-level c = let a = c.args in sym (too_deep a.f a.row.now (omega arith))

pub returns-then-row-ne0 : goal.returns-then-row-ne0
returns-then-row-ne0 c = let a = c.args in sym (spare_set a.f a.row.now c.if-row-ne0.true)

pub returns-then-label-lt1 : goal.returns-then-label-lt1
returns-then-label-lt1 c =
    let a = c.args in
    sym (no_label a.f a.row.now (omega (arith, c.word-label.ensures.0)))

pub returns-then-f-label : goal.returns-then-f-label
returns-then-f-label c =
    let a = c.args in
    sym (no_such_label a.f a.row.now (omega (arith, c.word-label.ensures.0)))

pub returns : goal.returns
returns c =
    let a = c.args in
    let label = c.word-label.ensures.0 in
    c.zeros_from.ensures ∙ ap (λ n. all (eqb 0) (drop n (words a.f.levels a.row.now 4))) c.wide-level.ensures.0
    ∙ sym (zeros_decide a.f a.row.now (omega arith) (omega arith) c.if-row-ne0.false (omega (arith, label)) (omega (arith, label)))
