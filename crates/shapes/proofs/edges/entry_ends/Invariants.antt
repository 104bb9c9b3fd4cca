-- `edges::entry_ends`: the ends that the children so far give. Assumes nothing.
use Prim.Native.Nat.{ℕ, ◌≤◌, ◌<◌}
use mathlib.Core.Path.{◌≡◌}
use lib.ListN.{length, get_or}
use Rattle.shapes.proofs.edges.entry_ends.Given as goal

abbrev pub invariant-loop-c : goal.invariant-loop-c
invariant-loop-c l = record {
  long : length l.ends ≡ 16;
  before : (e : ℕ) → get_or l.ends e 0 ≤ l.entries;
  last : (d : ℕ) → 0 < d → d < l.c → d < get_or l.ends (get_or l.parents d 0) 0;
}
