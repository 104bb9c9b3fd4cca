-- `word::label_of`: the label that has the name, or else the number, if the format has that label. Assumes nothing.
use native.Mathlib.Omega.{arith}
use mathlib.Core.Path.{sym, subst}
use Rattle.names.specs.Word.{NumberOf}
use Rattle.names.proofs.Labelled.{by_its_name, by_its_number, is_label, above_labels, no_label}
use Rattle.names.proofs.word.label_of.Goals as goal
use Rattle.names.proofs.word.label_of.Goals.{After-unwrap_or-v, else-v-gt20-via-then-v-gt20+else-v-f, else-v-gt20-via-else-v-gt20}

pub returns-then-f-named : goal.returns-then-f-named
returns-then-f-named c =
    let n = c.in-Some in above_labels _ _ n.named n.ensures.above_0 c.if-f-named.true (by_its_name n.ensures.named n.ensures.above_0)

pub returns-else-f-named : goal.returns-else-f-named
returns-else-f-named c =
    let n = c.in-Some in is_label _ _ n.named n.ensures.above_0 c.if-f-named.false (by_its_name n.ensures.named n.ensures.above_0)

number : (c : After-unwrap_or-v) → NumberOf c.args.part.now c.unwrap_or-v.result
number c = subst (NumberOf c.args.part.now) (sym c.unwrap_or-v.ensures) c.by_number.ensures.number

pub returns-then-v-f : goal.returns-then-v-f
returns-then-v-f c = is_label _ _ c.unwrap_or-v.result (omega arith) c.if-v-f.true (by_its_number (number (goal.at.returns-then-v-f c).After-unwrap_or-v) c.if-v-gt20.true)

pub returns-else-v-gt20 : goal.returns-else-v-gt20
returns-else-v-gt20 c =
    let v = c.unwrap_or-v.result in
    let is = number (goal.at.returns-else-v-gt20 c).After-unwrap_or-v in
    elim c.else-v-gt20.branch [
      | else-v-gt20-via-then-v-gt20+else-v-f w ↦ above_labels _ _ v (omega arith) w.if-v-f.false (by_its_number is w.if-v-gt20.true)
      | else-v-gt20-via-else-v-gt20 w ↦ no_label _ _ v c.requires.small c.in_default.ensures.named is w.if-v-gt20.false
    ]
