-- `labels::same_labels` meets its contract. Assumes nothing.
use Prim.Native.Nat.{ℕ, ◌≤◌, ◌<◌}
use mathlib.Core.Path.{◌≡◌}
use lib.ListN.{get_or}
use Rattle.indexes.specs.Labels.{label_of}
use Rattle.indexes.proofs.labels.same_labels.Given as goal

abbrev pub invariant-loop-m : goal.invariant-loop-m
invariant-loop-m l = (l.m ≤ get_or l.levels l.i 0) × ((k : ℕ) → l.m ≤ k → k < get_or l.levels l.i 0 → label_of l.labels l.i k ≡ label_of l.labels l.j k)
