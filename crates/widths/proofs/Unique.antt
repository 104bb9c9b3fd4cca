-- Any two answers that a contract allows are equal, and so is every lent byte. Assumes nothing.
use Prim.Native.Nat.{ℕ}
use mathlib.Core.Path.{◌≡◌, sym, ◌∙◌}
use mathlib.Core.List.{List}
use Rattle.std.specs.Prelude.{Result}
use Rattle.paper.specs.Calls.{Reply}
use Rattle.paper.specs.Refusals.{counted}
use Rattle.paper.specs.Widths as Widths
use Rattle.paper.specs.declared.refusal.Refusal.{Refusal}
use Rattle.paper.proofs.Refusals.{count_same}
use Rattle.widths.specs.Answers.{Moves}

-- two replies, whoever is told them
pub moves_one : (m : Widths.Moved) (r s : Reply ℕ) (new₁ new₂ : List ℕ) → Moves m r new₁ → Moves m s new₂ → (r ≡ s) × (new₁ ≡ new₂)
moves_one m r s new₁ new₂ a b = (a.0 ∙ sym b.0, a.1 ∙ sym b.1)

-- two answers of the call
pub moves_unique : (m : Widths.Moved) (r s : Result ℕ Refusal) (new₁ new₂ : List ℕ) → Moves m (counted r) new₁ → Moves m (counted s) new₂
    → (r ≡ s) × (new₁ ≡ new₂)
moves_unique m r s new₁ new₂ a b = let u = moves_one m (counted r) (counted s) new₁ new₂ a b in (count_same r s u.0, u.1)
