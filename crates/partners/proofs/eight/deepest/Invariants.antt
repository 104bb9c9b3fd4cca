use Rattle.std.proofs.Common.{ℕ, ◌≤◌, ◌<◌, get_or}
use Rattle.partners.proofs.eight.deepest.Given as goal

-- none of the bounds read is greater
abbrev pub invariant-loop-bound : goal.invariant-loop-bound
invariant-loop-bound l = (j : ℕ) → j < l.bound-index → get_or l.bound-items j 0 ≤ l.most
