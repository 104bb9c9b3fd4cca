-- `row::zeros_from`: what is left to look at decides. Assumes nothing.
use Rattle.std.proofs.Common.{◌≡◌, eqb, drop}
use Rattle.paper.specs.Lists.{all}
use Rattle.paper.specs.Format.{words}
use Rattle.tables.proofs.row.zeros_from.Given as goal

abbrev pub invariant-loop-i : goal.invariant-loop-i
invariant-loop-i l = all (eqb 0) (drop l.i (words l.f.levels l.row 4)) ≡ all (eqb 0) (drop l.k (words l.f.levels l.row 4))
