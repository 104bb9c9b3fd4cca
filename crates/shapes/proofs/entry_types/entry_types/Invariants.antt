-- `entry_types::entry_types`: the entries so far have the numbers of their types. Assumes nothing.
use mathlib.Core.Path.{◌≡◌}
use lib.ListN.{length}
use Rattle.paper.specs.Format.{most_entries}
use Rattle.shapes.proofs.Numbers.{Numbered}
use Rattle.shapes.proofs.entry_types.entry_types.Given as goal

abbrev pub invariant-loop-e : goal.invariant-loop-e
invariant-loop-e l = record {
  long : length l.types ≡ most_entries;
  numbered : Numbered l.f l.shape l.parents l.labels l.count l.e l.types;
}
