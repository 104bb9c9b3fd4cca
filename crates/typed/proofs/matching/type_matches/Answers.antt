-- One label of the name more, or the answer. Assumes nothing.
use native.Mathlib.Omega.{arith}
use mathlib.Core.Path.{◌∙◌, ap}
use mathlib.Core.Bool.{not}
use Rattle.typed.proofs.Compared.{comparing_start, comparing_short, comparing_not, comparing_up, comparing_end, comparing_whole}
use Rattle.typed.proofs.matching.type_matches.Goals as goal
use Rattle.typed.proofs.matching.type_matches.Goals.{then-count-q-via-then-count-q, then-count-q-via-else-count-q+then-labels-q}

pub loop-j-init : goal.loop-j-init
loop-j-init c = let a = c.args in comparing_start a.parents.now a.labels.now a.count a.name.now a.size a.whole a.k (omega arith)

pub returns-then-count-q : goal.returns-then-count-q
returns-then-count-q c =
    let a = c.args in
    let l = c.loop-j in
    elim c.then-count-q.branch [
      | then-count-q-via-then-count-q w ↦ comparing_short a.parents.now a.labels.now a.count a.name.now a.size a.whole a.k l.q l.j l.invariant
          (omega arith) (omega arith) w.if-count-q.true
      | then-count-q-via-else-count-q+then-labels-q w ↦ comparing_not a.parents.now a.labels.now a.count a.name.now a.size a.whole a.k l.q l.j l.invariant
          (omega arith) (omega arith) w.if-count-q.false w.if-labels-q.true
    ]

pub loop-j-preserved : goal.loop-j-preserved
loop-j-preserved c =
    let a = c.args in
    let l = c.loop-j in
    let up = comparing_up a.parents.now a.labels.now a.count a.name.now a.size a.whole a.k l.q l.j l.invariant (omega arith) (omega arith)
    c.if-count-q.false c.if-labels-q.false in
    rw c.wide-q.ensures.0 up

pub returns-then-not-whole : goal.returns-then-not-whole
returns-then-not-whole c =
    let a = c.args in
    let l = c.loop-j in
    let part = comparing_end a.parents.now a.labels.now a.count a.name.now a.size a.whole a.k l.q l.j l.invariant (omega arith) c.if-not-whole.true in
    λ ts told. ap not c.if-not-whole.true ∙ part ts told

pub returns-else-not-whole : goal.returns-else-not-whole
returns-else-not-whole c =
    let a = c.args in
    let l = c.loop-j in
    comparing_whole a.parents.now a.labels.now a.count a.name.now a.size a.whole a.k l.q l.j l.invariant (omega arith) c.if-not-whole.false
