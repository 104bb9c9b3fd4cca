-- `matching::match_type`: of the types before type k the name matches none, or the one that is found. Assumes nothing.
use Prim.Native.Nat.{◌≤◌}
use lib.ListN.{take}
use Rattle.paper.specs.Format.{most_types}
use Rattle.typed.proofs.Suffix.{name_with}
use Rattle.typed.proofs.Soles.{Seeking}
use Rattle.typed.proofs.matching.match_type.Given as goal

abbrev pub invariant-loop-k : goal.invariant-loop-k
invariant-loop-k l = record {
  few : l.found ≤ most_types;
  seeking : Seeking l.parents l.labels l.count (name_with l.name.whole (take l.size l.name.labels)) l.found l.k;
}
