-- `words::put_counted`: the number, a space, and the word that the number takes. Assumes nothing.
use Prim.Native.Nat.{ℕ}
use mathlib.Core.Path.{◌∙◌, ap}
use mathlib.Core.List.{List, ◌∷◌, ◌++◌}
use Rattle.std.specs.Borrow.{Bor}
use Rattle.grammar.specs.Text.{space, decimal}
use Rattle.names.proofs.Putting.{put_then, put_as}
use Rattle.screens.proofs.Parts.{counted-one, counted-more}
use Rattle.screens.proofs.words.put_counted.Goals as goal
use Rattle.screens.proofs.words.put_counted.Goals.{then-n-eq1, else-n-eq1}

pub returns-clause-put : goal.returns-clause-put
returns-clause-put c =
    let n = c.args.n in
    let whole = put_then c.put_number-number.ensures.0 (put_then c.put_byte-gap.ensures c.put_bytes.ensures) in
    let with = λ (w : Bor (List ℕ)). decimal n ++ (space ∷ w.now) in
    elim c.if-n-eq1.branch [
      | then-n-eq1 w ↦ put_as whole (ap with w.put_bytes-is ∙ counted-one n _ _ w.if-n-eq1.true)
      | else-n-eq1 w ↦ put_as whole (ap with w.put_bytes-is ∙ counted-more n _ _ w.if-n-eq1.false)
    ]
