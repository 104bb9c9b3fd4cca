-- `word::read_word`: the labels of the parts passed are read. Assumes nothing.
use Prim.Native.Nat.{◌<◌}
use native.Mathlib.Omega.{arith}
use mathlib.Core.Path.{refl, sym, ap, subst}
use lib.Dec.{eqb}
use Rattle.names.proofs.Labelled.{label_small}
use Rattle.names.proofs.Reading.{Read, first-within, none_read, no_label_read, held_read, full_read, all_read}
use Rattle.names.proofs.word.read_word.Goals as goal
use Rattle.names.proofs.word.read_word.Goals.{then-size-lt8, else-size-lt8}

pub loop-p-init : goal.loop-p-init
loop-p-init c =
    let w = c.args.word.now in
    (omega (arith, c.first_at-start.ensures, first-within w), omega arith, none_read _ w _ _ c.first_at-start.ensures refl)

pub returns-then-label-eq0 : goal.returns-then-label-eq0
returns-then-label-eq0 c =
    no_label_read c.loop-p.invariant.2 c.part_end-end.ensures c.label_of-label.result c.label_of-label.ensures c.if-label-eq0.true

pub overflow_cast-labels : goal.overflow_cast-labels
overflow_cast-labels c =
    let small = label_small _ _ c.label_of-label.ensures c.requires.0.small in
    omega arith

pub loop-p-preserved : goal.loop-p-preserved
loop-p-preserved c =
    let r = c.loop-p.invariant in
    let l = c.label_of-label in
    let some : 0 < l.result = omega (arith, c.if-label-eq0.false) in (
      omega (arith, c.part_end-end.ensures.within),
      omega (arith, c.part_end-end.ensures.begins, r.1),
      elim c.if-size-lt8.branch [
        | then-size-lt8 w ↦ subst (Read _ _ _ _) (sym w.labels-is) (held_read r.2 c.part_end-end.ensures l.result l.ensures some w.if-size-lt8.true)
        | else-size-lt8 w ↦ subst (Read _ _ _ _) (sym w.labels-is) (full_read r.2 c.part_end-end.ensures l.result l.ensures some w.if-size-lt8.false)
      ],
    )

pub returns : goal.returns
returns c =
    let r = c.loop-p.invariant.2 in
    record {
      name = _;
      spells_one = all_read r c.loop-p-test.false;
      held = record { whole_is = ap (λ i. eqb i 1) c.first_at-start.ensures; size_is = r.sized; labels_are = r.kept };
    }
