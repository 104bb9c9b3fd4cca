use Rattle.std.proofs.Common.{◌∙◌, ap₂}
use Prim.Native.Nat.{min}
use Rattle.judging.proofs.Ways.{shared_apart, shared-whole}
use Rattle.judging.proofs.pairs.shared_way.Goals as goal

pub returns-then-ways-e : goal.returns-then-ways-e
returns-then-ways-e c =
    shared_apart c.requires.0 c.requires.1 c.min-most.result c.loop-k.k (c.min-most.ensures ∙ ap₂ min c.wide.ensures.0 c.wide-2.ensures.0)
    c.loop-k.invariant c.loop-k-test.true c.if-ways-e.true

pub returns : goal.returns
returns c =
    shared-whole c.requires.0 c.requires.1 c.min-most.result c.loop-k.k (c.min-most.ensures ∙ ap₂ min c.wide.ensures.0 c.wide-2.ensures.0)
    c.loop-k.invariant c.loop-k.auto.k-end c.loop-k-test.false
