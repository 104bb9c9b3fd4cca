-- Any two answers that the contract of building allows are equal, and so is every lent place. Assumes nothing.
use Prim.Native.Nat.{ℕ}
use mathlib.Core.Path.{◌≡◌, sym, ◌∙◌}
use mathlib.Core.List.{List}
use Rattle.std.specs.Prelude.{Result}
use Rattle.paper.specs.Format.{Format}
use Rattle.paper.specs.Calls.{Reply}
use Rattle.paper.specs.declared.refusal.Refusal.{Refusal}
use Rattle.paper.proofs.Refusals.{count_same}
use Rattle.indexes.specs.Built.{built, Builds}

module _ {f : Format} {t last next last₁ next₁ last₂ next₂ : List ℕ} where
  -- two replies, whoever is told them
  pub builds_one : {r s : Reply ℕ} → Builds f t last next r last₁ next₁ → Builds f t last next s last₂ next₂ → (r ≡ s) × (last₁ ≡ last₂) × (next₁ ≡ next₂)
  builds_one a b = (a.answer ∙ sym b.answer, a.lasts ∙ sym b.lasts, a.nexts ∙ sym b.nexts)

  -- two answers of the call
  pub builds_unique : {r s : Result ℕ Refusal} → Builds f t last next (built r) last₁ next₁ → Builds f t last next (built s) last₂ next₂
      → (r ≡ s) × (last₁ ≡ last₂) × (next₁ ≡ next₂)
  builds_unique {r} {s} a b = let u = builds_one a b in (count_same r s u.0, u.1, u.2)
