-- The word is the digits of none of the entries before.
use Rattle.std.proofs.Common.{ℕ, ◌<◌, ◌≡◌}
use Rattle.grammar.specs.Text.{decimal}
use Rattle.billing.proofs.entry.entry_of.Given as goal

abbrev pub invariant-loop-e : goal.invariant-loop-e
invariant-loop-e l = (k : ℕ) → k < l.e → l.word ≡ decimal k → ⊥
