-- Any two answers that the contract allows are equal, and so is every lent byte. Assumes nothing.
use Prim.Native.Nat.{ℕ}
use mathlib.Core.Path.{◌≡◌, sym, ◌∙◌}
use mathlib.Core.List.{List}
use Rattle.std.specs.Prelude.{Result}
use Rattle.paper.specs.Calls.{Reply}
use Rattle.paper.specs.Refusals.{counted}
use Rattle.paper.specs.declared.refusal.Refusal.{Refusal}
use Rattle.paper.proofs.Refusals.{count_same}
use Rattle.grammar.specs.Typed.{Printing}
use Rattle.spelling.specs.Printed.{Prints}

-- two replies, whoever is told them
pub prints_one : (p : Printing) (r q : Reply ℕ) (t₁ t₂ : List ℕ) → Prints p r t₁ → Prints p q t₂ → (r ≡ q) × (t₁ ≡ t₂)
prints_one p r q t₁ t₂ a b = (a.0 ∙ sym b.0, a.1 ∙ sym b.1)

-- two answers of the call
pub prints_unique : (p : Printing) (r q : Result ℕ Refusal) (t₁ t₂ : List ℕ) → Prints p (counted r) t₁ → Prints p (counted q) t₂ → (r ≡ q) × (t₁ ≡ t₂)
prints_unique p r q t₁ t₂ a b = let u = prints_one p (counted r) (counted q) t₁ t₂ a b in (count_same r q u.0, u.1)
