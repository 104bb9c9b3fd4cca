-- One label more is counted, or none is left. Assumes nothing.
use native.Mathlib.Omega.{arith}
use mathlib.Core.Path.{◌≡◌}
use Rattle.typed.proofs.Sizes.{counting_start, counting_up, counting_end, counting_most}
use Rattle.typed.proofs.records.type_size.Goals as goal

pub loop-n-init : goal.loop-n-init
loop-n-init c = counting_start c.args.parents.now c.args.count c.args.k c.requires.1

pub returns-then-count-q : goal.returns-then-count-q
returns-then-count-q c =
    let a = c.args in
    (omega arith, counting_end a.parents.now a.count a.k c.loop-n.q c.loop-n.n c.loop-n.invariant c.if-count-q.true)

pub loop-n-preserved : goal.loop-n-preserved
loop-n-preserved c =
    let a = c.args in
    rw c.wide-q.ensures.0 (counting_up a.parents.now a.count a.k c.loop-n.q c.loop-n.n c.loop-n.invariant c.if-count-q.false)

pub returns : goal.returns
returns c =
    let a = c.args in
    let all : c.loop-n.n ≡ 8 = omega arith in
    (omega arith, counting_most a.parents.now a.count a.k c.loop-n.q 8 (rw all at c.loop-n.invariant) c.requires.1 (omega arith))
