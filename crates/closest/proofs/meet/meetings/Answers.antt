-- `meet::meetings`: a row's turn. Assumes nothing.
use native.Mathlib.Omega.{arith}
use mathlib.Core.Path.{◌∙◌, ap}
use lib.ListN.{length, get_or}
use Rattle.closest.proofs.Deepest.{zeros-at}
use Rattle.closest.proofs.Meetings.{walked_none, walked_more}
use Rattle.closest.proofs.meet.meetings.Goals as goal

pub loop-i-init : goal.loop-i-init
loop-i-init c =
    let none = c.requires.1 in
    walked_none _ _ _ _ _ (ap length none) (zeros-at 16) (λ j. ap (λ l. get_or l j 0) none ∙ zeros-at 1024 j)

pub loop-i-preserved : goal.loop-i-preserved
loop-i-preserved c = walked_more c.loop-i.invariant _ c.onward-next.ensures _ _ c.wide.ensures.0 c.deepen.ensures (omega arith)
