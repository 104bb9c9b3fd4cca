-- `judging::pairs::least_level`: the least of what is found and what follows is the least of all. Assumes nothing.
use Rattle.std.proofs.Common.{◌≡◌, drop}
use Rattle.shapes.specs.Ways.{way_at}
use Rattle.judging.specs.Pairs.{lowest, levels_on}
use Rattle.judging.proofs.pairs.least_level.Given as goal

abbrev pub invariant-loop-i : goal.invariant-loop-i
invariant-loop-i l =
    lowest l.least (levels_on l.edges (drop l.i (way_at l.ways l.e l.size))) ≡ lowest l.b (levels_on l.edges (drop l.k (way_at l.ways l.e l.size)))
