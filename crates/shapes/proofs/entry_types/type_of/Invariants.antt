-- `entry_types::type_of`: it goes down the list of types label by label. Assumes nothing.
use Prim.Native.Nat.{◌≤◌, ◌<◌}
use Rattle.paper.specs.Format.{most_types, words}
use Rattle.shapes.proofs.Down.{Walked}
use Rattle.shapes.proofs.entry_types.type_of.Given as goal

abbrev pub invariant-loop-k : goal.invariant-loop-k
invariant-loop-k l = record {
  few : l.p ≤ most_types;
  listed : 0 < l.k → l.p < l.count;
  walked : Walked l.parents l.labels l.count (words l.f.levels l.entry 4) l.k l.p;
}
