-- `judging::full::full_edges`: entry 0 counts as full, and each entry passed by its least number. Assumes nothing.
use Rattle.std.proofs.Common.{◌≡◌, ℕ, ◌≤◌, ◌<◌, true, false, nat_eq, length, get_or}
use Rattle.std.specs.Prelude.{not}
use Rattle.judging.proofs.full.full_edges.Given as goal

abbrev pub invariant-loop-c : goal.invariant-loop-c
invariant-loop-c l =
    (length l.full ≡ 16) × (get_or l.full 0 false ≡ true)
    × ((e : ℕ) → 1 ≤ e → e < l.c → get_or l.full e false ≡ not (nat_eq (get_or l.least e 0) 0))
