-- `row::agree`: the two agree so far. Assumes nothing.
use Rattle.tables.proofs.Laws.{walk_start, walk_step, walk-stop, walk_end}
use Rattle.tables.proofs.row.agree.Goals as goal

pub loop-k-init : goal.loop-k-init
loop-k-init c = walk_start c.args.f c.args.x.now c.args.y.now c.args.n c.requires.x_bound.2 c.requires.x_bound.3

pub returns-then-component : goal.returns-then-component
returns-then-component c =
    walk-stop c.args.f c.args.x.now c.args.y.now c.requires.x_bound.0 c.requires.x_bound.1 c.args.n c.loop-k.k c.component.result c.component-in-loop-k.result
    c.loop-k.invariant c.loop-k-test.true c.component.ensures.0 c.component-in-loop-k.ensures.0 c.if-component.true

pub loop-k-preserved : goal.loop-k-preserved
loop-k-preserved c =
    walk_step c.args.f c.args.x.now c.args.y.now c.requires.x_bound.0 c.requires.x_bound.1 c.args.n c.loop-k.k c.component.result c.component-in-loop-k.result
    c.loop-k.invariant c.loop-k-test.true c.component.ensures.0 c.component-in-loop-k.ensures.0 c.if-component.false

pub returns : goal.returns
returns c = walk_end c.args.f c.args.x.now c.args.y.now c.requires.x_bound.0 c.requires.x_bound.1 c.args.n c.loop-k.k c.loop-k.invariant c.loop-k-test.false
