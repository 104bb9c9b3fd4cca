-- The children of an entry, by their parents. Assumes nothing.
use Prim.Native.Nat.{ℕ, zero, suc, ◌+◌, ◌-◌, ◌≤◌, ◌<◌}
use native.Mathlib.Omega.{arith}
use mathlib.Core.Path.{◌≡◌, refl, sym, ◌∙◌, ap, ap₂}
use mathlib.Core.Bool.{Bool, true, false, true≢false}
use mathlib.Core.List.{List, [], ◌∷◌, ◌++◌}
use lib.Dec.{eqb}
use lib.ListN.{length, get_or, take, length-append}
use lib.Seq.{take_at}
use borrow.Author.Tests.{eqb-true, eq-eqb}
use Rattle.paper.specs.Lists.{keep, count, same, up, last_or}
use Rattle.paper.specs.Format.{Format}
use Rattle.paper.specs.Tables.{rows}
use Rattle.paper.specs.Closeness.{nodes}
use Rattle.paper.specs.Shapes.{Shape, way, parent, children}
use Rattle.paper.proofs.Lists.{same_eq, eq_same, up_snoc, count-has}
use Rattle.paper.proofs.Kept.{keep_same}
use Rattle.paper.proofs.Papers.{same_test}
use Rattle.paper.proofs.Verdict.{last_way, child_parent, child_pos}
use Rattle.shapes.specs.Tests.{shape_in}
use Rattle.shapes.specs.Shape.{parent_of}
use Rattle.shapes.specs.Work.{Work, Ready}
use Rattle.shapes.proofs.Given.{ways_are, over}
use Rattle.lines.specs.Lines.{children_of}

-- ---- numbers kept
keep_skip : (p : ℕ → Bool) (k i n : ℕ) → ((x : ℕ) → i ≤ x → x < i + k → p x ≡ false) → keep p (count i (k + n)) ≡ keep p (count (i + k) n)
keep_skip p zero i n h = let e : i ≡ i + 0 = omega arith in let q : 0 + n ≡ n = omega arith in ap₂ (λ j m. keep p (count j m)) e q
keep_skip p (suc k) i n h =
    let q : suc k + n ≡ suc (k + n) = omega arith in
    let e : suc i + k ≡ i + suc k = omega arith in
    ap (λ m. keep p (count i m)) q ∙ first (p i) (h i (omega arith) (omega arith)) ∙ keep_skip p k (suc i) n (λ x a b. h x (omega arith) (omega arith)) ∙ ap (λ j. keep p (count j n)) e
  where
    first : (b : Bool) → b ≡ false
        → elim b as (λ _. List ℕ) [ true ↦ i ∷ keep p (count (suc i) (k + n)) | false ↦ keep p (count (suc i) (k + n)) ] ≡ keep p (count (suc i) (k + n))
    first true e = absurd (true≢false e)
    first false e = refl

module _ {f : Format} {t sb : List ℕ} {w : Work} (y : Ready f t sb w) where
  abbrev sh : Shape
  sh = shape_in f t sb

  entry_in : (e : ℕ) → e < w.shape.entries → e < length sh.ways
  entry_in e lt = omega (arith, y.holds.counted)

  -- the way of a later entry is its parent's, and itself
  over_way : (c : ℕ) → 0 < c → c < w.shape.entries → way sh c ≡ way sh (parent sh c) ++ (c ∷ [])
  over_way c pos lt = go ((ways_are f t sb y.given_is).own c (entry_in c lt))
    where
      go : ((u : List ℕ) × (way sh c ≡ u ++ (c ∷ []))) → way sh c ≡ way sh (parent sh c) ++ (c ∷ [])
      go ([], e) =
          let (v, q) = (ways_are f t sb y.given_is).root c (entry_in c lt) in
          let no : ⊥ = omega (arith, ap (last_or 0) (sym e ∙ q), ap (λ l. get_or l 0 0) (sym e ∙ q)) in absurd no
      go (x ∷ u, e) =
          let n = length (x ∷ u) in
          let (g, lg, q) = (ways_are f t sb y.given_is).cut c (entry_in c lt) n (omega arith) (omega (arith, ap length e, length-append (x ∷ u) (c ∷ []))) in
          let up_is : way sh g ≡ x ∷ u = q ∙ ap (take n) e ∙ take_at (x ∷ u) (c ∷ []) n refl in
          let g-is : parent sh c ≡ g = ap (last_or 0) (ap up e ∙ up_snoc (x ∷ u) c ∙ sym up_is) ∙ last_way sh (ways_are f t sb y.given_is) g lg in
          e ∙ ap (λ v. v ++ (c ∷ [])) (sym up_is ∙ ap (way sh) (sym g-is))

  module _ (e : ℕ) (le : e < w.shape.entries) where
    abbrev child : ℕ → Bool
    child c = same (up (way sh c)) (way sh e)

    -- a child's way is the entry's, and itself
    child_way : (c : ℕ) → c < w.shape.entries → child c ≡ true → way sh c ≡ way sh e ++ (c ∷ [])
    child_way c lt h =
        let (u, q) = (ways_are f t sb y.given_is).own c (entry_in c lt) in
        q ∙ ap (λ v. v ++ (c ∷ [])) (sym (up_snoc u c) ∙ sym (ap up q) ∙ same_eq (up (way sh c)) (way sh e) h)

    -- an entry up to e is no child of it
    early : (c : ℕ) → c ≤ e → child c ≡ false
    early c ce = go (child c) refl
      where
        go : (b : Bool) → child c ≡ b → child c ≡ false
        go false h = h
        go true h =
            let lc : c < w.shape.entries = omega arith in
            let q = child_way c lc h in
            let pos = child_pos sh (ways_are f t sb y.given_is) e c (entry_in e le) (entry_in c lc) q in
            let is = child_parent sh (ways_are f t sb y.given_is) e c (entry_in e le) q in
            let near = (over f t sb y.given_is c pos (entry_in c lc)).0 in
            let no : ⊥ = omega (arith, is, near) in absurd no

    late : (c : ℕ) → e < c → c < w.shape.entries → child c ≡ eqb (parent_of w.shape c) e
    late c ec lc = same_test (child c) (eqb (parent_of w.shape c) e) yes no
      where
        yes : child c ≡ true → eqb (parent_of w.shape c) e ≡ true
        yes h =
            let up_is = child_parent sh (ways_are f t sb y.given_is) e c (entry_in e le) (child_way c lc h) in
            eq-eqb (parent_of w.shape c) e (y.holds.parent_is c lc ∙ up_is)

        no : eqb (parent_of w.shape c) e ≡ true → child c ≡ true
        no h =
            let up_is = sym (y.holds.parent_is c lc) ∙ eqb-true (parent_of w.shape c) e h in
            eq_same (ap up (over_way c (omega arith) lc) ∙ up_snoc (way sh (parent sh c)) c ∙ ap (way sh) up_is)

    pub children_are : children_of (nodes (rows f t)) w.shape e ≡ children (shape_in f t sb) e
    children_are =
        let n = w.shape.entries - (e + 1) in
        let q : e + 1 + n ≡ length sh.ways = omega (arith, y.holds.counted) in
        let i : 0 + (e + 1) ≡ e + 1 = omega arith in
        keep_same (λ c. eqb (parent_of w.shape c) e) child (count (e + 1) n)
        (λ c h. let b = count-has (e + 1) n c h in sym (late c (omega (arith, b.0)) (omega (arith, b.1))))
        ∙ sym (ap (λ m. keep child (count 0 m)) (sym q) ∙ keep_skip child (e + 1) 0 n (λ c a b. early c (omega arith)) ∙ ap (λ j. keep child (count j n)) i)
