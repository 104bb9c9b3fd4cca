-- `shapes::work::prepare` meets its contract. Assumes nothing.
use native.Mathlib.Omega.{arith}
use mathlib.Core.Path.{ap}
use lib.ListN.{length}
use Rattle.shapes.proofs.Prepared as laws
use Rattle.shapes.proofs.work.prepare.Goals as goal

pub draw-drawn-requires : goal.draw-drawn-requires
draw-drawn-requires c =
    let (t, rows) = c.requires.1 in
    (laws.known rows (laws.tested rows c.in_ok-tested.ensures), omega (arith, ap length c.requires.2.none_met, c.meetings.auto.deepest))

pub returns : goal.returns
returns c t rows =
    laws.prepared rows (laws.tested rows c.in_ok-tested.ensures) c.meetings.new.deepest c.meetings.ensures c.draw-drawn.result c.draw-drawn.ensures c.requires.0
