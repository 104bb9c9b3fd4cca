-- `type_levels`: the types of the rows so far have their levels. Assumes nothing.
use mathlib.Core.Path.{◌≡◌}
use lib.ListN.{length}
use Rattle.paper.specs.Format.{most_types}
use Rattle.adorned.specs.Runs.{TypeLevels}
use Rattle.adorned.proofs.type_levels.Given as goal

abbrev pub invariant-loop-i : goal.invariant-loop-i
invariant-loop-i l = record { long : length l.found ≡ most_types; leveled : TypeLevels l.i l.levels l.types l.found }
