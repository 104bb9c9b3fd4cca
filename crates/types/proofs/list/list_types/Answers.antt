-- `list::list_types`: a row is of a listed type, of a new one, or of one too many. Assumes nothing.
use native.Mathlib.Omega.{arith}
use mathlib.Core.Path.{refl}
use Rattle.paper.proofs.Calls.{count-rows}
use Rattle.types.proofs.Listed.{lists_end, walk_known, walk_new, walk_full}
use Rattle.types.proofs.list.list_types.Goals as goal
use Rattle.types.proofs.list.list_types.Goals.{in-Some, in-None+else-count-eq64}

pub returns-then-count-eq64 : goal.returns-then-count-eq64
returns-then-count-eq64 c =
    walk_full _ _ c.requires.table_value.0 c.loop-i.i (omega arith) c.wide-l.result c.word-a.result (cc) (cc) _ _ _ _ _ _ c.loop-i.invariant.0 refl
    (omega arith) c.requires.rows_value.2 c.in-None.ensures c.if-count-eq64.true

pub loop-i-preserved : goal.loop-i-preserved
loop-i-preserved c =
    let walk = c.loop-i.invariant.0 in
    elim c.match-find_near.branch [
      | in-Some w ↦
          let found = w.in-Some.ensures in
          rw (w.count-is, w.types-is, w.parents-is, w.labels-is, w.stack-is, w.last-is) (
            walk_known _ _ c.requires.table_value.0 c.loop-i.i (omega arith) c.wide-l.result c.word-a.result (cc) (cc) _ _ _ _ _ _ walk refl
                (omega arith) c.requires.rows_value.2 _ found.0 found.1 found.2,
            omega (arith, walk.pass.few),
          )
      | in-None+else-count-eq64 w ↦
          rw (w.count-is, w.types-is, w.parents-is, w.labels-is, w.stack-is, w.last-is) (
            walk_new _ _ c.requires.table_value.0 c.loop-i.i (omega arith) c.wide-l.result c.word-a.result (cc) (cc) _ _ _ _ _ _ walk refl
                (omega arith) c.requires.rows_value.2 w.in-None.ensures (omega (arith, walk.pass.few)),
            omega (arith, walk.pass.few),
          )
    ]

pub returns : goal.returns
returns c =
    let walk = c.loop-i.invariant.0 in
    let count = count-rows c.args.f c.args.table.now in
    lists_end _ _ _ _ _ _ _ (omega (arith, count)) (omega (arith, count, walk.ks_long)) walk.pass
