-- The numbers of a stretch that pass a test: the first of them and the last. Assumes nothing.
use Prim.Native.Nat.{ℕ, zero, suc, ◌+◌, ◌≤◌, ◌<◌}
use native.Mathlib.Omega.{arith}
use mathlib.Core.Path.{◌≡◌, refl, sym, ◌∙◌, ap, ap₂}
use mathlib.Core.Logic.{⊎_elim}
use mathlib.Core.Bool.{Bool, true, false}
use mathlib.Core.List.{List, [], ◌∷◌, map}
use Rattle.paper.specs.Lists.{keep, first_or, last_or, place, count}
use Rattle.paper.specs.Closeness.{Node}
use Rattle.paper.specs.Index.{places}
use Rattle.types.proofs.Step.{below}

module _ {A : Type 0} where
  -- the first element is kept or not
  abbrev pick : Bool → A → List A → List A
  pick b x xs = elim b as (λ _. List A) [ true ↦ x ∷ xs | false ↦ xs ]

-- the test that fails where it does not pass
abbrev Fails : (ℕ → Bool) → ℕ → ℕ → Type 0
Fails b i j = (x : ℕ) → i ≤ x → x < j → b x ≡ false

module _ (g : ℕ → Node) (own : (x : ℕ) → (g x).place ≡ x) (q : Node → Bool) where
  -- the places of the nodes that are kept are the numbers that are
  pub kept_places : (i n : ℕ) → places (keep q (map g (count i n))) ≡ keep (λ x. q (g x)) (count i n)
  kept_places i zero = refl
  kept_places i (suc n) = go (q (g i)) refl (kept_places (suc i) n)
    where
      go : (b : Bool) → q (g i) ≡ b → places (keep q (map g (count (suc i) n))) ≡ keep (λ x. q (g x)) (count (suc i) n)
          → places (keep q (map g (count i (suc n)))) ≡ keep (λ x. q (g x)) (count i (suc n))
      go true e ih =
          ap (λ b. places (pick b (g i) (keep q (map g (count (suc i) n))))) e ∙ ap₂ {C = List ℕ} (λ x xs. x ∷ xs) (own i) ih
          ∙ sym (ap (λ b. pick b i (keep (λ x. q (g x)) (count (suc i) n))) e)
      go false e ih =
          ap (λ b. places (pick b (g i) (keep q (map g (count (suc i) n))))) e ∙ ih
          ∙ sym (ap (λ b. pick b i (keep (λ x. q (g x)) (count (suc i) n))) e)

  -- and the first node that passes stands at the first number that does
  pub placed : (i n : ℕ) → place q (map g (count i n)) ≡ place (λ x. q (g x)) (count i n)
  placed i zero = refl
  placed i (suc n) = ap (λ k. elim (q (g i)) [ true ↦ 0 | false ↦ suc k ]) (placed (suc i) n)

module _ (b : ℕ → Bool) where
  abbrev kept : ℕ → ℕ → List ℕ
  kept i n = keep b (count i n)

  here : (i n : ℕ) (c : Bool) → b i ≡ c → kept i (suc n) ≡ pick c i (kept (suc i) n)
  here i n c e = ap (λ c. pick c i (kept (suc i) n)) e

  kept_none : (i n : ℕ) → Fails b i (i + n) → keep b (count i n) ≡ []
  kept_none i zero none = refl
  kept_none i (suc n) none = here i n false (none i (omega arith) (omega arith)) ∙ kept_none (suc i) n (λ x a l. none x (omega arith) (omega arith))

  pub first-none : (d i n : ℕ) → Fails b i (i + n) → first_or d (keep b (count i n)) ≡ d
  first-none d i n none = ap (first_or d) (kept_none i n none)

  pub first_at_lem : (d i n p : ℕ) → i ≤ p → p < i + n → b p ≡ true → Fails b i p → first_or d (keep b (count i n)) ≡ p
  first_at_lem d i zero p le lt e none = let z : ⊥ = omega arith in absurd z
  first_at_lem d i (suc n) p le lt e none = ⊎_elim
      (λ a. ap (first_or d) (here i n false (none i (omega arith) a)) ∙ first_at_lem d (suc i) n p a (omega arith) e (λ x c l. none x (omega arith) l))
      (λ q. ap (first_or d) (here i n true (ap b q ∙ e)) ∙ q) (below i p (omega arith))

  pub last_at : (d i n p : ℕ) → i ≤ p → p < i + n → b p ≡ true → Fails b (suc p) (i + n) → last_or d (keep b (count i n)) ≡ p
  last_at d i zero p le lt e none = let z : ⊥ = omega arith in absurd z
  last_at d i (suc n) p le lt e none = ⊎_elim
      (λ a. later (b i) refl (λ d. last_at d (suc i) n p a (omega arith) e (λ x c l. none x c (omega arith))))
      (λ q. ap (last_or d) (here i n true (ap b q ∙ e)) ∙ ap (last_or i) (kept_none (suc i) n (λ x c l. none x (omega arith) (omega arith))) ∙ q)
      (below i p (omega arith))
    where
      later : (c : Bool) → b i ≡ c → ((d : ℕ) → last_or d (kept (suc i) n) ≡ p) → last_or d (kept i (suc n)) ≡ p
      later true q ih = ap (last_or d) (here i n true q) ∙ ih i
      later false q ih = ap (last_or d) (here i n false q) ∙ ih d

  -- ---- the place of the first
  pub place_none : (i n : ℕ) → Fails b i (i + n) → place b (count i n) ≡ n
  place_none i zero none = refl
  place_none i (suc n) none =
      ap (λ c. elim c [ true ↦ 0 | false ↦ suc (place b (count (suc i) n)) ]) (none i (omega arith) (omega arith))
      ∙ ap suc (place_none (suc i) n (λ x a l. none x (omega arith) (omega arith)))

  pub place_at : (i n k : ℕ) → k < n → b (i + k) ≡ true → Fails b i (i + k) → place b (count i n) ≡ k
  place_at i zero k lt e none = let z : ⊥ = omega arith in absurd z
  place_at i (suc n) zero lt e none =
      let q : i + 0 ≡ i = omega arith in
      ap (λ c. elim c [ true ↦ 0 | false ↦ suc (place b (count (suc i) n)) ]) (ap b (sym q) ∙ e)
  place_at i (suc n) (suc k) lt e none =
      let q : i + suc k ≡ suc i + k = omega arith in
      ap (λ c. elim c [ true ↦ 0 | false ↦ suc (place b (count (suc i) n)) ]) (none i (omega arith) (omega arith))
      ∙ ap suc (place_at (suc i) n k (omega arith) (ap b (sym q) ∙ e) (λ x a l. none x (omega arith) (omega arith)))
