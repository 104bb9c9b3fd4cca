-- The parent of an entry, which the definition takes from the entry's way, is document 01's: the nearest earlier entry one level
-- up. Assumes nothing.
use Prim.Native.Nat.{ℕ, zero, suc, ◌+◌, ◌≤◌, ◌<◌, pred}
use native.Mathlib.Nat.{not-suc-le-zero, le_of_suc-le-suc}
use native.Mathlib.Omega.{arith}
use mathlib.Core.Path.{◌≡◌, refl, sym, ◌∙◌, ap, subst}
use mathlib.Core.Logic.{inl, inr}
use mathlib.Core.Bool.{Bool, true, false}
use mathlib.Core.List.{List, [], ◌∷◌, ◌++◌}
use lib.Dec.{leb}
use lib.ListN.{length, get_or, length-take, take}
use lib.Seq.{take-take}
use borrow.Author.Tests.{leb-true, leb-false}
use Rattle.paper.specs.Lists.{last_or, up, ways}
use Rattle.paper.specs.Format.{Format}
use Rattle.paper.specs.Shapes.{Entry, Shape, entry_kept, steps, shape_over, way, parent}
use Rattle.paper.proofs.Agree.{Agree, take_agree, shared_eq}
use Rattle.paper.proofs.Forest.{Lt, lt_trans, lt_between}
use Rattle.paper.proofs.Tables.{Rules}
use Rattle.paper.proofs.Shapes.{Ways, level_of, size, shape-ways, way_level}
use Rattle.paper.proofs.Verdict.{last_way, way_one}

-- ---- ways stand in document order, whatever the levels
-- every entry of a way is before entry i
abbrev Before : ℕ → List ℕ → Type 0
Before i [] = Unit
Before i (x ∷ w) = (x < i) × Before i w

-- the way of entry i is after the way before it, and its entries are before the next
step-later : (i n : ℕ) (w : List ℕ) → Before i w → Lt w (take n w ++ (i ∷ []))
step-later i zero [] b = tt
step-later i zero (x ∷ w) b = inl b.0
step-later i (suc n) [] b = tt
step-later i (suc n) (x ∷ w) b = inr (refl, step-later i n w b.1)

step_before : (i n : ℕ) (w : List ℕ) → Before i w → Before (suc i) (take n w ++ (i ∷ []))
step_before i zero w b = (omega arith, tt)
step_before i (suc n) [] b = (omega arith, tt)
step_before i (suc n) (x ∷ w) b = (omega (arith, b.0), step_before i n w b.1)

-- every way is after the way before the first
all-later : (w : List ℕ) (i : ℕ) (es : List Entry) (j : ℕ) → Before i w → j < length es → Lt w (get_or (ways w (steps i es)) j [])
all-later w i [] j b lt = absurd (not-suc-le-zero lt)
all-later w i (e ∷ es) zero b lt = step-later i (pred e.level) w b
all-later w i (e ∷ es) (suc j) b lt =
    let v = take (pred e.level) w ++ (i ∷ []) in
    lt_trans w v (get_or (ways v (steps (suc i) es)) j []) (step-later i (pred e.level) w b)
    (all-later v (suc i) es j (step_before i (pred e.level) w b) (le_of_suc-le-suc lt))

-- of two ways the later entry's is after the other
in_order_lem : (w : List ℕ) (i : ℕ) (es : List Entry) (j k : ℕ) → Before i w → j < k → k < length es
    → let l = ways w (steps i es) in Lt (get_or l j []) (get_or l k [])
in_order_lem w i [] j k b jk lt = absurd (not-suc-le-zero lt)
in_order_lem w i (e ∷ es) j zero b jk lt = absurd (not-suc-le-zero jk)
in_order_lem w i (e ∷ es) zero (suc k) b jk lt =
    all-later (take (pred e.level) w ++ (i ∷ [])) (suc i) es k (step_before i (pred e.level) w b) (le_of_suc-le-suc lt)
in_order_lem w i (e ∷ es) (suc j) (suc k) b jk lt =
    in_order_lem (take (pred e.level) w ++ (i ∷ [])) (suc i) es j k (step_before i (pred e.level) w b) (le_of_suc-le-suc jk) (le_of_suc-le-suc lt)

-- a list is not after one that it begins
not_after : (k : ℕ) (w : List ℕ) → Lt w (take k w) → ⊥
not_after zero w h = h
not_after (suc k) [] h = h
not_after (suc k) (x ∷ w) (inl h) = let z : ⊥ = omega arith in z
not_after (suc k) (x ∷ w) (inr h) = not_after k w h.1

module _ (f : Format) (ts : List (List ℕ)) (es : List Entry) (kept : Rules (entry_kept f) level_of 0 es) where
  abbrev s : Shape
  s = shape_over ts es

  w : Ways s
  w = shape-ways f ts es kept

  ordered : (e g : ℕ) → e < g → g < length s.ways → Lt (way s e) (way s g)
  unfolding shape_over
  ordered e g eg lt = in_order_lem [] 0 es e g tt eg (omega (arith, size f ts es kept))

  -- an entry after the first has another above it on its way
  two : (e : ℕ) → 0 < e → e < length s.ways → 2 ≤ length (way s e)
  two e pos le = let (v, q) = w.root e le in go v q
    where
      go : (v : List ℕ) → way s e ≡ 0 ∷ v → 2 ≤ length (way s e)
      go [] q = let z : ⊥ = omega (arith, last_way s w e le, ap (last_or 0) q) in absurd z
      go (x ∷ v) q = omega (arith, ap length q)

  module _ (e : ℕ) (pos : 0 < e) (le : e < length s.ways) where
    abbrev p : ℕ
    p = parent s e

    -- the parent's way is the entry's own without its end
    parent_way : (p < length s.ways) × (way s p ≡ up (way s e))
    parent_way =
        let (g, lg, q) = w.cut e le (pred (length (way s e))) (omega (arith, two e pos le)) (omega arith) in
        let r : g ≡ p = sym (last_way s w g lg) ∙ ap (last_or 0) q in
        (subst (λ z. z < length s.ways) r lg, subst (λ z. way s z ≡ up (way s e)) r q)

    one_shorter : length (way s p) + 1 ≡ length (way s e)
    one_shorter = omega (arith, ap length parent_way.1, length-take (pred (length (way s e))) (way s e), two e pos le)

    earlier : p < e
    earlier = go (leb e p) (leb p e) refl refl
      where
        go : (a b : Bool) → leb e p ≡ a → leb p e ≡ b → p < e
        go false b i j = leb-false e p i
        go true true i j =
            let q : p ≡ e = omega (arith, leb-true e p i, leb-true p e j) in
            let z : ⊥ = omega (arith, one_shorter, ap (λ z. length (way s z)) q) in absurd z
        go true false i j =
            absurd (not_after (pred (length (way s e))) (way s e)
            (subst (λ z. Lt (way s e) z) parent_way.1 (ordered e p (leb-false p e j) parent_way.0)))

    agreed : Agree (length (way s p)) (way s p) (way s e)
    agreed =
        take_agree (length (way s p)) (way s p) (way s e) (omega arith)
        (ap (take (length (way s p))) parent_way.1 ∙ take-take (length (way s p)) (pred (length (way s e))) (way s e) (omega (arith, one_shorter)))
        (omega (arith, one_shorter))

    -- an entry between the two has the parent on its way, and is not the parent: it lies deeper
    none_between : (g : ℕ) → p < g → g < e → length (way s g) ≡ length (way s p) → ⊥
    none_between g pg ge l =
        let lg : g < length s.ways = omega arith in
        let a = lt_between (length (way s p)) (way s p) (way s g) (way s e) (ordered p g pg lg) (ordered g e ge le) agreed in
        let z = way_one s w p g parent_way.0 lg (shared_eq (way s p) (way s g) (sym l) a) in
        omega (arith, z)

  -- An entry's parent is the nearest earlier entry one level up.
  pub parent_nearest : (e : ℕ) → 0 < e → e < length es
      → let s = shape_over ts es in let p = parent s e in
      (p < e) × (get_or s.levels p 0 + 1 ≡ get_or s.levels e 0)
      × ((g : ℕ) → p < g → g < e → get_or s.levels g 0 ≡ get_or s.levels p 0 → ⊥)
  parent_nearest e pos lt =
      let le : e < length s.ways = omega (arith, size f ts es kept) in
      let pe = earlier e pos le in
      let level : (g : ℕ) → g < length es → length (way s g) ≡ get_or s.levels g 0 = λ g lg. (way_level f ts es kept g lg).0 in (
        pe,
        omega (arith, one_shorter e pos le, level e lt, level (parent s e) (omega arith)),
        λ g pg ge q. none_between e pos le g pg ge (level g (omega arith) ∙ q ∙ sym (level (parent s e) (omega arith))),
      )
