-- `labels::put_labels` meets its contract. Assumes nothing.
use Prim.Native.Nat.{◌+◌, ◌*◌, ◌<◌}
use native.Mathlib.Omega.{arith}
use mathlib.Core.Path.{◌∙◌, ap}
use lib.ListN.{get_or}
use Rattle.indexes.specs.Labels.{label_of}
use Rattle.indexes.proofs.Copied.{not_first, put_copied}
use Rattle.indexes.proofs.labels.put_labels.Goals as goal
use Rattle.indexes.proofs.labels.put_labels.Goals.{then-l-gt1, else-l-gt1}

pub returns : goal.returns
returns c = put_copied _ _ _ _ _ c.requires.0 c.requires.1 (omega arith)
    (λ m lt. elim c.if-l-gt1.branch [
      | then-l-gt1 w ↦
          let pos : 0 < c.args.i = not_first _ _ c.requires.3 w.if-l-gt1.true in
          ap (λ x. label_of x c.args.i m) w.labels-is ∙ w.copy_within.ensures.by_index.0 (8 * c.args.i + m) 0 (omega arith) (omega arith)
          ∙ ap (λ k. get_or c.args.labels.now k 0) (omega arith)
      | else-l-gt1 w ↦ let z : ⊥ = omega (arith, lt, w.if-l-gt1.false) in absurd z
    ])
    (λ p lt. elim c.if-l-gt1.branch [
      | then-l-gt1 w ↦ ap (λ x. get_or x p 0) w.labels-is ∙ w.copy_within.ensures.by_index.1 p 0 lt
      | else-l-gt1 w ↦ ap (λ x. get_or x p 0) w.labels-is
    ])
