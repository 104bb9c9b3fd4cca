-- `next::wrong_next` meets its contract. Assumes nothing.
use Prim.Native.Nat.{◌-◌, ◌<◌}
use native.Mathlib.Omega.{arith}
use Rattle.paper.specs.Format.{most_types}
use Rattle.closest.specs.Runs.{NextRow}
use Rattle.closest.proofs.Index.{firsts_start, firsts_step, next_own}
use Rattle.indexes.proofs.Wrong.{wrong_start, wrong_not, wrong_here}
use Rattle.indexes.proofs.next.wrong_next.Goals as goal

pub loop-i-init : goal.loop-i-init
loop-i-init c = (firsts_start _ _ c.requires.few.0, wrong_start _ (NextRow c.args.rows c.args.types.now) c.args.next.now)

pub loop-i-preserved-then-next-i : goal.loop-i-preserved-then-next-i
loop-i-preserved-then-next-i c =
    let pos : 0 < c.loop-i.i = omega (arith, c.loop-i-test.true) in
    let own = c.wide-k.ensures.0 in
    let known = c.loop-i.invariant.0 in
    let within = c.loop-i.auto.i in
    let few : c.wide-k.result < most_types = omega (arith, own, c.requires.typed (c.loop-i.i - 1) (omega (arith, within, pos))) in
    (firsts_step known pos within own few, wrong_not _ (NextRow c.args.rows c.args.types.now) c.args.next.now _ _ pos (next_own known pos within own few) _ c.loop-i.invariant.1 c.if-next-i.true)

pub loop-i-preserved : goal.loop-i-preserved
loop-i-preserved c =
    let pos : 0 < c.loop-i.i = omega (arith, c.loop-i-test.true) in
    let own = c.wide-k.ensures.0 in
    let known = c.loop-i.invariant.0 in
    let within = c.loop-i.auto.i in
    let few : c.wide-k.result < most_types = omega (arith, own, c.requires.typed (c.loop-i.i - 1) (omega (arith, within, pos))) in
    (firsts_step known pos within own few, wrong_here _ (NextRow c.args.rows c.args.types.now) c.args.next.now _ _ pos (next_own known pos within own few) (omega (arith, within, pos)) c.if-next-i.false)
