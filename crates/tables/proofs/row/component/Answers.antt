-- `row::component` meets its contract. Assumes nothing.
use mathlib.Core.Path.{sym, ◌∙◌}
use Rattle.tables.proofs.Laws.{words-at}
use native.Mathlib.Omega.{arith}
use Rattle.tables.proofs.row.component.Goals as goal

pub returns : goal.returns
returns c =
    let a = c.args in
    (c.word.ensures.0 ∙ sym (words-at a.f.levels a.row.now 4 a.k (omega arith)), c.word.ensures.1)
