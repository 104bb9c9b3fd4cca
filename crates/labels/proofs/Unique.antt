-- Any two answers that the contract allows are equal, and so is every lent byte; what an accepted one leaves. Assumes nothing.
use Prim.Native.Nat.{ℕ, ◌<◌}
use mathlib.Core.Path.{◌≡◌, sym, ◌∙◌, ap}
use mathlib.Core.List.{List}
use lib.ListN.{length, take}
use Rattle.paper.specs.Format.{Format}
use Rattle.paper.specs.Calls.{given, Reply}
use Rattle.paper.specs.Labels as Labels
use Rattle.paper.specs.Labels.{pairs, none_converted, converting, Converting, convert}
use Rattle.keeping.proofs.ConvertedLeft.{converted_left}
use Rattle.std.specs.Prelude.{Result}
use Rattle.paper.specs.declared.refusal.Refusal.{Refusal}
use Rattle.paper.proofs.Refusals.{same_answer}
use Rattle.labels.specs.Answers.{counts_of, converted, Converts}
use Rattle.labels.specs.declared.convert.Converted.{Converted}

-- two replies, whoever is told them
pub converts_one : (c : Converting) (r q : Reply Labels.Converted) (t₁ u₁ t₂ u₂ : List ℕ) → Converts c r t₁ u₁ → Converts c q t₂ u₂
    → (r ≡ q) × (t₁ ≡ t₂) × (u₁ ≡ u₂)
converts_one c r q t₁ u₁ t₂ u₂ a b = (a.0 ∙ sym b.0, a.1 ∙ sym b.1, a.2 ∙ sym b.2)

-- Two answers that are one reply are one.
pub converted_same : (r q : Result Converted Refusal) → converted r ≡ converted q → r ≡ q
converted_same r q e =
    same_answer none_converted counts_of (λ a b. ap {B = Converted} (λ (x : Labels.Converted). record { rows = x.rows; entries = x.entries })) r q e

-- two answers of the call
pub converts_unique : (c : Converting) (r q : Result Converted Refusal) (t₁ u₁ t₂ u₂ : List ℕ) → Converts c (converted r) t₁ u₁
    → Converts c (converted q) t₂ u₂ → (r ≡ q) × (t₁ ≡ t₂) × (u₁ ≡ u₂)
converts_unique c r q t₁ u₁ t₂ u₂ a b =
    let u = converts_one c (converted r) (converted q) t₁ u₁ t₂ u₂ a b in (converted_same r q u.0, u.1, u.2)

-- What an accepted call leaves at the front of what was lent is an accepted conversion.
pub converts_left : (f : Format) → f.labels < 65536 → (b s l lent-table lent-shape : List ℕ) (r : Reply Labels.Converted) (t u : List ℕ)
    → Converts (convert f b s l lent-table lent-shape) r t u → r.number ≡ 0
    → converting f b s (pairs l) (length lent-table) (length lent-shape)
    ≡ given (r.rest, take (length b) t, take (length s) u)
converts_left f few b s l lent-table lent-shape r t u x e =
    let told = x.0 in
    let number = sym (ap (λ (y : Reply Labels.Converted). y.number) told) ∙ e in
    let counts = sym (ap (λ (y : Reply Labels.Converted). y.rest) told) in
    converted_left f b s l lent-table lent-shape few number
    ∙ (λ i. given (counts i, take (length b) (sym x.1 i), take (length s) (sym x.2 i)))
