-- `partners::edges::first_alone`: no entry passed has such a run. Assumes nothing.
use Rattle.std.proofs.Common.{◌≡◌, ℕ, ◌≤◌, ◌<◌}
use Rattle.partners.specs.Eight.{no_number}
use Rattle.partners.specs.Edges.{of_entry}
use Rattle.partners.proofs.edges.first_alone.Given as goal

abbrev pub invariant-loop-c : goal.invariant-loop-c
invariant-loop-c l = (e : ℕ) → e < l.c → 1 ≤ e → of_entry l.low l.high e ≡ no_number
