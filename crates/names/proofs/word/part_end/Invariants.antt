-- `word::part_end`: no byte passed is a dot. Assumes nothing.
use Prim.Native.Nat.{ℕ, ◌≤◌, ◌<◌}
use mathlib.Core.Path.{◌≡◌}
use lib.ListN.{get_or}
use Rattle.grammar.specs.Text.{dot}
use Rattle.names.proofs.word.part_end.Given as goal

abbrev pub invariant-loop-q : goal.invariant-loop-q
invariant-loop-q l = (j : ℕ) → l.p ≤ j → j < l.q → get_or l.word j 0 ≡ dot → ⊥
