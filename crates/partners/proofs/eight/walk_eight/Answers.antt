-- `eight::walk_eight`: each turn walks a row, and then those that are deeper than every bound. Assumes nothing.
use Rattle.std.proofs.Common.{arith, ◌≡◌, subst}
use Rattle.partners.specs.Eight.{WalkedAll}
use Rattle.partners.proofs.Walked.{walked_none, walked_more, walked_all}
use Rattle.partners.proofs.Deep.{walked_few, walked-deep}
use Rattle.partners.proofs.eight.walk_eight.Goals as goal

pub loop-i-init : goal.loop-i-init
loop-i-init c =
    let a = c.args in
    (omega arith, walked_none a.levels.now a.types.now a.bounds a.over a.own c.nothing-found.ensures)

pub returns-then-rows-i : goal.returns-then-rows-i
returns-then-rows-i c =
    let a = c.args in
    let q : c.loop-i.i ≡ a.rows = omega arith in
    let all = walked_all a.levels.now a.types.now a.bounds a.over a.own c.loop-i.invariant.1
    (c.level_at-level.ensures.past (omega (arith, q))) c.close-closed.ensures in
    subst (λ n. WalkedAll a.levels.now a.types.now n a.bounds a.over a.own c.close-closed.result) q all

-- no more rows are counted than came before
pub count_on-requires : goal.count_on-requires
count_on-requires c e lt =
    let a = c.args in
    let few = walked_few a.levels.now a.types.now a.bounds a.over a.own c.loop-i.invariant.1 a.rows c.loop-i.invariant.0 in
    omega (arith, few.parents_few e lt)

pub count_on-requires-in-loop-i : goal.count_on-requires-in-loop-i
count_on-requires-in-loop-i c e lt =
    let a = c.args in
    let few = walked_few a.levels.now a.types.now a.bounds a.over a.own c.loop-i.invariant.1 a.rows c.loop-i.invariant.0 in
    omega (arith, few.children_few e lt)

-- the row of this turn is walked
pub count_deep-next-requires : goal.count_deep-next-requires
count_deep-next-requires c =
    let a = c.args in
    let walked = walked_more a.levels.now a.types.now a.bounds a.over a.own c.loop-i.invariant.1 (c.level_at-level.ensures.own c.if-rows-i.false)
    c.close-closed.ensures c.count_on.ensures c.count_on-in-loop-i.ensures in
    (c.requires, walked_few a.levels.now a.types.now a.bounds a.over a.own walked a.rows (omega arith))

-- and the deeper ones after it
pub loop-i-preserved : goal.loop-i-preserved
loop-i-preserved c =
    let a = c.args in
    let walked = walked_more a.levels.now a.types.now a.bounds a.over a.own c.loop-i.invariant.1 (c.level_at-level.ensures.own c.if-rows-i.false)
    c.close-closed.ensures c.count_on.ensures c.count_on-in-loop-i.ensures in
    (c.count_deep-next.ensures.row_in, walked-deep a.levels.now a.types.now a.bounds a.over a.own walked c.deepest-bound.ensures c.count_deep-next.ensures)
