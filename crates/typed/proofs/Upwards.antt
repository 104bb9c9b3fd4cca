-- The way up from a listed type, parent by parent. Assumes nothing.
use Prim.Native.Nat.{ℕ, ◌+◌, ◌≤◌, ◌<◌}
use native.Mathlib.Omega.{arith}
use mathlib.Core.Path.{◌≡◌, refl, sym, ◌∙◌, ap, subst}
use mathlib.Core.Logic.{◌⊎◌, inl, inr, ⊎_elim}
use mathlib.Core.List.{List, [], ◌∷◌, ◌++◌}
use lib.ListN.{length, get_or, length-append}
use Rattle.paper.specs.Lists.{Has, last_or, up}
use Rattle.paper.proofs.Lists.{get_d_has}
use Rattle.paper.proofs.Tables.{number_at}
use Rattle.types.specs.Types.{parent_of, Told}
use Rattle.shapes.proofs.Down.{known_up, in_two}

-- q is the number of the type v, or of none where v has no label.
abbrev pub Stands : List (List ℕ) → ℕ → ℕ → List ℕ → Type 0
Stands ts count q v = ((q < count) × (v ≡ get_or ts q [])) ⊎ ((count ≤ q) × (v ≡ []))

module _ (ts : List (List ℕ)) (parents labels : List ℕ) (count : ℕ) (told : Told ts parents labels count) where
  -- a number that is no type's stands for no label
  pub stands_root : (q : ℕ) (v : List ℕ) → Stands ts count q v → count ≤ q → v ≡ []
  stands_root q v s le = ⊎_elim (λ t. let z : ⊥ = omega (arith, t.0) in absurd z) (λ t. t.1) s

  pub stands_type : (q : ℕ) (v : List ℕ) → Stands ts count q v → q < count → v ≡ get_or ts q []
  stands_type q v s lt = ⊎_elim (λ t. t.1) (λ t. let z : ⊥ = omega (arith, t.0) in absurd z) s

  -- what is known stands by its number
  known_stands : (u : List ℕ) → (u ≡ []) ⊎ Has u ts → Stands ts count (parent_of ts u) u
  known_stands [] known = inr (told.few, refl)
  known_stands (x ∷ u) (inl e) = let z : ⊥ = omega (arith, ap length e) in absurd z
  known_stands (x ∷ u) (inr h) = let (lt, e) = number_at (x ∷ u) ts h in inl (omega (arith, lt, told.count-is), sym e)

  module _ (q : ℕ) (v : List ℕ) (s : Stands ts count q v) (lt : q < count) where
    listed : Has v ts
    listed = subst (λ u. Has u ts) (sym (stands_type q v s lt)) (get_d_has [] ts q (omega (arith, told.count-is)))

    -- a type is what stands above it and its last label
    pub stands_split : v ≡ up v ++ (get_or labels q 0 ∷ [])
    stands_split =
        in_two ts parents labels count told v listed
        ∙ ap (λ x. up v ++ (x ∷ [])) (ap (last_or 0) (stands_type q v s lt) ∙ sym (told.label q lt))

    -- one step up
    pub stands_up : Stands ts count (get_or parents q 0) (up v)
    stands_up =
        subst (λ p. Stands ts count p (up v)) (sym (told.parent q lt ∙ ap (λ u. parent_of ts (up u)) (sym (stands_type q v s lt))))
        (known_stands (up v) (known_up ts parents labels count told v listed))

    pub stands_length : length v ≡ length (up v) + 1
    stands_length = ap length stands_split ∙ length-append (up v) (get_or labels q 0 ∷ [])
