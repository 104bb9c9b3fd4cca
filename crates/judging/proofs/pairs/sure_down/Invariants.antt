-- `judging::pairs::sure_down`: the edges so far are full and of other levels. Assumes nothing.
use Rattle.std.proofs.Common.{◌≡◌, drop}
use Rattle.shapes.specs.Ways.{way_at}
use Rattle.judging.specs.Pairs.{sure_on}
use Rattle.judging.proofs.pairs.sure_down.Given as goal

abbrev pub invariant-loop-i : goal.invariant-loop-i
invariant-loop-i l =
    sure_on l.edges l.full l.l (drop l.i (way_at l.ways l.e l.size)) ≡ sure_on l.edges l.full l.l (drop l.k (way_at l.ways l.e l.size))
