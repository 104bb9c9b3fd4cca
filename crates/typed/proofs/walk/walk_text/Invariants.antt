-- `walk::walk_text`: from each token on the rest says what is said of the text. Assumes nothing.
use Prim.Native.Nat.{◌-◌, ◌≤◌}
use mathlib.Core.Path.{◌≡◌}
use lib.ListN.{length}
use Rattle.paper.specs.Format.{most_entries}
use Rattle.typed.proofs.Walking.{Going}
use Rattle.typed.proofs.walk.walk_text.Given as goal

abbrev pub invariant-loop-p : goal.invariant-loop-p
invariant-loop-p l = record {
  within : l.p ≤ length l.text;
  shallow : l.depth ≤ l.p;
  few : l.w.entries ≤ l.p;
  levels_long : length l.w.levels ≡ most_entries;
  types_long : length l.w.types ≡ most_entries;
  going : Going l.f l.text l.parents l.labels l.count l.w l.stage l.depth l.p;
}

abbrev pub decreases-loop-p : goal.decreases-loop-p
decreases-loop-p l = length l.text - l.p
