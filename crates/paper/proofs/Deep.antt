-- The number of levels of the format cuts no line off: with any greater number the lines are the same. Assumes nothing.
use Prim.Native.Nat.{ℕ, zero, suc, ◌+◌, ◌≤◌, ◌<◌, pred}
use native.Mathlib.Nat.{not-suc-le-zero, le_of_suc-le-suc}
use native.Mathlib.Omega.{arith}
use mathlib.Core.Path.{◌≡◌, refl, ap, ap₂, subst}
use mathlib.Core.Logic.{inl, inr}
use mathlib.Core.List.{List, [], ◌∷◌, ◌++◌, map}
use lib.ListN.{length, length-append}
use Rattle.paper.specs.Lists.{Has, joined}
use Rattle.paper.specs.Format.{Format}
use Rattle.paper.specs.Closeness.{Node, of_kind, closest_of}
use Rattle.paper.specs.Shapes.{Entry, Shape, entry_kept, shape_over, kind, way, children}
use Rattle.paper.specs.NewTable.{forest, tree, beneath, tops, lines}
use Rattle.paper.proofs.Lists.{map-has, join-has, joined_map}
use Rattle.paper.proofs.Tables.{Rules}
use Rattle.paper.proofs.Shapes.{Ways, level_of, size, shape-ways, way_level}
use Rattle.paper.proofs.Verdict.{listed_child, way_zero}

-- equal trees make equal forests
forest_same : {A : Type 0} (grow grow' : A → List ℕ → List (A × List ℕ)) (d : List ℕ) (i : ℕ) (xs : List A)
    → ((x : A) → Has x xs → (d : List ℕ) → grow x d ≡ grow' x d) → forest grow d i xs ≡ forest grow' d i xs
forest_same grow grow' d i [] h = refl
forest_same grow grow' d i (x ∷ xs) h =
    ap₂ (λ a b. a ++ b) (h x (inl refl) (d ++ (i ∷ []))) (forest_same grow grow' d (suc i) xs (λ y k. h y (inr k)))

module _ (t : List Node) (s : Shape) (w : Ways s) (some : 0 < length s.ways) (n : ℕ)
    (deep : (e : ℕ) → e < length s.ways → length (way s e) ≤ n) where
  abbrev Pair : Type 0
  Pair = ℕ × Node

  abbrev depth : Pair → ℕ
  depth x = length (way s x.0)

  -- what stands beneath a line is of a child entry: its way is one longer, and no way is longer than n
  kid_deeper : (x y : Pair) → Has y (joined (beneath t s x)) → (depth y ≡ depth x + 1) × (depth y ≤ n)
  unfolding beneath
  kid_deeper x y h =
      let group : ℕ → List Pair = λ c. map (λ (r : Node). (c, r)) (closest_of t x.1 (kind s c)) in
      let (c, hc, i) = join-has group y (children s x.0) (subst (λ l. Has y l) (joined_map group (children s x.0)) h) in
      let (r, hr, e) = map-has {B = Pair} (λ (r : Node). (c, r)) y (closest_of t x.1 (kind s c)) i in
      let (lc, wc) = listed_child s w x.0 c hc in
      let q : depth y ≡ length (way s c) = ap (λ (z : Pair). depth z) e in
      (omega (arith, ap length wc, length-append (way s x.0) (c ∷ [])), omega (arith, deep c lc))

  -- m levels beneath a line are enough where the line's own and they reach n
  tree_enough : (m k : ℕ) → m ≤ k → (x : Pair) → n ≤ depth x + m → (d : List ℕ) → tree (beneath t s) k x d ≡ tree (beneath t s) m x d
  tree_enough zero zero le x far d = refl
  tree_enough zero (suc k) le x far d = ap (λ l. (x, d) ∷ forest (tree (beneath t s) k) d 1 l) (none (joined (beneath t s x)) (kid_deeper x))
    where
      none : (l : List Pair) → ((y : Pair) → Has y l → (depth y ≡ depth x + 1) × (depth y ≤ n)) → l ≡ []
      none [] h = refl
      none (y ∷ l) h = let (a, b) = h y (inl refl) in let z : ⊥ = omega arith in absurd z
  tree_enough (suc m) zero le x far d = absurd (not-suc-le-zero le)
  tree_enough (suc m) (suc k) le x far d =
      ap (λ l. (x, d) ∷ l) (forest_same (tree (beneath t s) k) (tree (beneath t s) m) d 1 (joined (beneath t s x))
      (λ y h. tree_enough m k (le_of_suc-le-suc le) y (omega (arith, (kid_deeper x y h).0))))

  -- a line of entry 0 with the levels beneath the first reaches n
  top_far : (x : Pair) → Has x (tops t s) → n ≤ depth x + pred n
  unfolding tops
  top_far x h =
      let (r, hr, e) = map-has {B = Pair} (λ (r : Node). (0, r)) x (of_kind t (kind s 0)) h in
      omega (arith, deep 0 some, ap (λ (z : Pair). depth z) e, ap length (way_zero s w some))

  -- The lines in a format of n levels are all that there are: more levels add none.
  pub levels_enough : (k : ℕ) → lines t s (n + k) ≡ lines t s n
  unfolding lines
  levels_enough k =
      ap (map (λ (x : Pair × List ℕ). record { entry = x.0.0; source = x.0.1; dewey = x.1 }))
      (forest_same (tree (beneath t s) (pred (n + k))) (tree (beneath t s) (pred n)) [] 1 (tops t s)
      (λ x h. tree_enough (pred n) (pred (n + k)) (omega arith) x (top_far x h)))

-- So it is for every shape that keeps the entry rules, in its own format.
pub format_enough : (f : Format) (ts : List (List ℕ)) (es : List Entry) → Rules (entry_kept f) level_of 0 es → 0 < length es
    → (t : List Node) (k : ℕ) → lines t (shape_over ts es) (f.levels + k) ≡ lines t (shape_over ts es) f.levels
format_enough f ts es kept pos t k =
    let z = size f ts es kept in
    levels_enough t (shape_over ts es) (shape-ways f ts es kept) (omega arith) f.levels (λ e le. (way_level f ts es kept e (omega arith)).1) k
