-- The way down from the root to an entry's type, label by label. Assumes nothing.
use Prim.Native.Nat.{ℕ, zero, suc, ◌+◌, ◌≤◌, ◌<◌, pred, zero-le}
use native.Mathlib.Nat.{not-suc-le-zero, le_of_suc-le-suc}
use native.Mathlib.Numerals.{add-one}
use native.Mathlib.Omega.{arith}
use mathlib.Core.Path.{◌≡◌, refl, sym, ◌∙◌, ap, ap₂, subst}
use mathlib.Core.Logic.{◌⊎◌, inl, inr}
use mathlib.Core.Bool.{Bool, true, false}
use mathlib.Core.List.{List, [], ◌∷◌, ◌++◌}
use lib.Dec.{leb}
use lib.ListN.{length, get_or, take, length-take, length-append}
use lib.Seq.{take-suc, take-take}
use borrow.Author.Tests.{leb-true, leb-false}
use Rattle.paper.specs.Lists.{Has, last_or, place, same, up}
use Rattle.paper.specs.Format.{most_types}
use Rattle.paper.specs.Tables.{type_number}
use Rattle.paper.proofs.Lists.{same_self, same_eq, get_d_has, up_snoc, last_snoc, up_last}
use Rattle.paper.proofs.Tables.{number_at, number_same}
use Rattle.types.specs.Types.{parent_of, Found, NotListed, Told}
use Rattle.shapes.specs.EntryTypes.{Numbers}

-- ---- the number of a type
-- the number is the first place
number-first : (ts : List (List ℕ)) (k : ℕ) → k < length ts → type_number ts (get_or ts k []) ≤ k
unfolding type_number
number-first [] k lt = absurd (not-suc-le-zero lt)
number-first (t ∷ ts) zero lt = rw (same_self t, place) zero-le
number-first (t ∷ ts) (suc k) lt = go (same (get_or ts k []) t) refl (number-first ts k (le_of_suc-le-suc lt))
  where
    go : (b : Bool) → same (get_or ts k []) t ≡ b → place (same (get_or ts k [])) ts ≤ k → place (same (get_or ts k [])) (t ∷ ts) ≤ suc k
    go true e ih = rw (e, place) zero-le
    go false e ih = rw (e, place) (omega arith)

-- what is none of the types has their count for its number
pub number-none : (ts : List (List ℕ)) (v : List ℕ) → (Has v ts → ⊥) → type_number ts v ≡ length ts
unfolding type_number
number-none [] v out = refl
number-none (t ∷ ts) v out = go (same v t) refl (number-none ts v (λ h. out (inr h)))
  where
    go : (b : Bool) → same v t ≡ b → place (same v) ts ≡ length ts → place (same v) (t ∷ ts) ≡ suc (length ts)
    go true e ih = absurd (out (inl (same_eq v t e)))
    go false e ih = rw (e, place) (ap suc ih)

-- what is not empty has its own number
some_number : (ts : List (List ℕ)) (u : List ℕ) → 0 < length u → type_number ts u ≡ parent_of ts u
some_number ts [] lt = absurd (not-suc-le-zero lt)
some_number ts (x ∷ u) lt = refl

-- ---- the types that are told
module _ (ts : List (List ℕ)) (parents labels : List ℕ) (count : ℕ) (told : Told ts parents labels count) where
  -- nothing, or a listed type
  abbrev pub Known : List ℕ → Type 0
  Known u = (u ≡ []) ⊎ Has u ts

  -- a listed type's number is below 64
  pub below_most : (u : List ℕ) → Has u ts → type_number ts u < most_types
  below_most u h = omega (arith, (number_at u ts h).0, told.count-is, told.few)

  -- numbers tell the known apart
  number-one : (u v : List ℕ) → Known u → Known v → parent_of ts u ≡ parent_of ts v → u ≡ v
  number-one [] [] a b e = refl
  number-one [] (y ∷ v) a (inl q) e = sym q
  number-one [] (y ∷ v) a (inr h) e = let z : ⊥ = omega (arith, below_most (y ∷ v) h) in absurd z
  number-one (x ∷ u) [] (inl q) b e = q
  number-one (x ∷ u) [] (inr h) b e = let z : ⊥ = omega (arith, below_most (x ∷ u) h) in absurd z
  number-one (x ∷ u) (y ∷ v) (inl q) b e = let z : ⊥ = omega (arith, ap length q) in absurd z
  number-one (x ∷ u) (y ∷ v) (inr h) (inl q) e = let z : ⊥ = omega (arith, ap length q) in absurd z
  number-one (x ∷ u) (y ∷ v) (inr h) (inr k) e = number_same (x ∷ u) (y ∷ v) ts h k e

  -- what stands above a listed type is known
  pub known_up : (u : List ℕ) → Has u ts → Known (up u)
  known_up u h = go (pred (length u)) (omega arith)
    where
      go : (k : ℕ) → k ≤ length u → Known (take k u)
      go zero le = inl refl
      go (suc k) le = inr (told.above u h (suc k) (omega arith) le)

  -- a type is what stands above it and its last label
  pub in_two : (u : List ℕ) → Has u ts → u ≡ up u ++ (last_or 0 u ∷ [])
  in_two u h = go u (told.whole u h)
    where
      go : (u : List ℕ) → 0 < length u → u ≡ up u ++ (last_or 0 u ∷ [])
      go [] lt = absurd (not-suc-le-zero lt)
      go (x ∷ u) lt = up_last x u

  module _ (u : List ℕ) (p a : ℕ) (known : Known u) (ep : p ≡ parent_of ts u) where
    -- a listed type that is u and the label a is not passed over
    not_passed : (q : ℕ) → ((k : ℕ) → k < q → get_or parents k 0 ≡ p → get_or labels k 0 ≡ a → ⊥) → Has (u ++ (a ∷ [])) ts
        → q ≤ type_number ts (u ++ (a ∷ []))
    not_passed q passed h = go (leb q (type_number ts (u ++ (a ∷ [])))) refl (number_at (u ++ (a ∷ [])) ts h)
      where
        go : (b : Bool) → leb q (type_number ts (u ++ (a ∷ []))) ≡ b
            → (type_number ts (u ++ (a ∷ [])) < length ts) × (get_or ts (type_number ts (u ++ (a ∷ []))) [] ≡ u ++ (a ∷ [])) → q ≤ type_number ts (u ++ (a ∷ []))
        go true e at = leb-true q (type_number ts (u ++ (a ∷ []))) e
        go false e (lt, is) =
            let j = type_number ts (u ++ (a ∷ [])) in
            let lc : j < count = omega (arith, told.count-is) in
            absurd (passed j (leb-false q j e) (told.parent j lc ∙ ap (λ z. parent_of ts (up z)) is ∙ ap (parent_of ts) (up_snoc u a) ∙ sym ep)
            (told.label j lc ∙ ap (last_or 0) is ∙ last_snoc 0 u a))

    module _ (q : ℕ) (f : Found parents labels count p a q) where
      -- the type that is found is u and the label a
      found_type : get_or ts q [] ≡ u ++ (a ∷ [])
      found_type =
          let v = get_or ts q [] in
          let h : Has v ts = get_d_has [] ts q (omega (arith, told.count-is, f.within)) in
          let (e, l) = f.found in
          let eu : up v ≡ u = number-one (up v) u (known_up v h) known (sym (told.parent q f.within) ∙ e ∙ ep) in
          in_two v h ∙ ap₂ (λ x y. x ++ (y ∷ [])) eu (sym (told.label q f.within) ∙ l)

      found_listed : Has (u ++ (a ∷ [])) ts
      found_listed = subst (λ v. Has v ts) found_type (get_d_has [] ts q (omega (arith, told.count-is, f.within)))

      -- q is its number
      found_number : q ≡ type_number ts (u ++ (a ∷ []))
      found_number =
          let le : type_number ts (get_or ts q []) ≤ q = number-first ts q (omega (arith, told.count-is, f.within)) in
          omega (arith, not_passed q f.passed found_listed, ap (type_number ts) found_type)

    -- where none is found, it is no listed type
    found_none : NotListed parents labels count p a → Has (u ++ (a ∷ [])) ts → ⊥
    found_none none h = omega (arith, not_passed count none h, (number_at (u ++ (a ∷ [])) ts h).0, told.count-is)

-- ---- the walk: whatever types are listed, p is the number of the first k labels
module _ (parents labels : List ℕ) (count : ℕ) where
  abbrev pub Walked : List ℕ → ℕ → ℕ → Type 0
  Walked l k p = (ts : List (List ℕ)) → Told ts parents labels count → (p ≡ parent_of ts (take k l)) × ((take k l ≡ []) ⊎ Has (take k l) ts)

  module _ (l : List ℕ) (k p a : ℕ) (w : Walked l k p) (lt : k < length l) (ea : a ≡ get_or l k 0) where
    one_more : take (suc k) l ≡ take k l ++ (a ∷ [])
    one_more = take-suc l k 0 lt ∙ ap (λ x. take k l ++ (x ∷ [])) (sym ea)

    pub walk_step : (q : ℕ) → Found parents labels count p a q → Walked l (k + 1) q
    walk_step q f ts told =
        let (e, known) = w ts told in
        let n : take (k + 1) l ≡ take k l ++ (a ∷ []) = ap (λ m. take m l) (add-one k) ∙ one_more in (
          found_number ts parents labels count told (take k l) p a known e q f ∙ sym (ap (type_number ts) n) ∙ some_number ts (take (k + 1) l) (omega (arith, ap length n, length-append (take k l) (a ∷ []))),
          inr (subst (λ v. Has v ts) (sym n) (found_listed ts parents labels count told (take k l) p a known e q f)),
        )

    pub walk-stop : NotListed parents labels count p a → (size : ℕ) → k < size → size ≤ length l → Numbers parents labels count (take size l) count
    walk-stop none size ls fits ts told =
        let (e, known) = w ts told in
        told.count-is
        ∙ sym (number-none ts (take size l) (λ h. found_none ts parents labels count told (take k l) p a known e none
        (subst (λ v. Has v ts) (take-take (suc k) size l ls ∙ one_more) (told.above (take size l) h (suc k) (omega arith) (omega (arith, length-take size l))))))
