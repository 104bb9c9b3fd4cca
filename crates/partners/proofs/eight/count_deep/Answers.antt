-- `eight::count_deep`: each row deeper than the bound is counted. Assumes nothing.
use Rattle.std.proofs.Common.{arith, refl}
use Rattle.partners.proofs.Deep.{deep_none, deep_more}
use Rattle.partners.proofs.eight.count_deep.Goals as goal

pub loop-row-init : goal.loop-row-init
loop-row-init c =
    let a = c.args in
    (refl, deep_none a.levels.now a.types.now a.rows a.over a.own a.bound a.at c.requires.1)

pub loop-row-preserved : goal.loop-row-preserved
loop-row-preserved c =
    let a = c.args in (
      refl,
      deep_more a.levels.now a.types.now a.rows a.over a.own a.bound c.loop-row.invariant.1 (omega arith) c.if-levels-row.false
          c.add_own-parents.ensures c.add_own-children.ensures,
    )
