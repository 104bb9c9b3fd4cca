-- Every line's source row is a row of its entry's type. Assumes nothing.
use Prim.Native.Nat.{ℕ, zero, suc, pred}
use mathlib.Core.Path.{◌≡◌, refl, sym, subst}
use mathlib.Core.Logic.{inl, inr, ⊎_elim}
use mathlib.Core.List.{List, [], ◌∷◌, ◌++◌, map}
use lib.Dec.{eqb}
use borrow.Author.Tests.{eqb-true}
use Rattle.paper.specs.Lists.{Has, joined}
use Rattle.paper.specs.Closeness.{Node, kinds_meet, meet_at, of_kind, closest_of}
use Rattle.paper.specs.Shapes.{Shape, kind, children}
use Rattle.paper.specs.NewTable.{Line, forest, tree, beneath, tops, lines}
use Rattle.totals.proofs.Lists.{has_append, keep-has, map-has, joined_has}

-- ---- What holds of the first things, and passes from a thing to all that stands beneath it, holds of all that is written.
module _ {A : Type 0} (P : A → Type 0) where
  forest_holds : (grow : A → List ℕ → List (A × List ℕ)) → ((x : A) (d : List ℕ) → P x → (y : A × List ℕ) → Has y (grow x d) → P y.0)
      → (d : List ℕ) (i : ℕ) (xs : List A) → ((x : A) → Has x xs → P x) → (y : A × List ℕ) → Has y (forest grow d i xs) → P y.0
  forest_holds grow grown d i [] each y h = absurd h
  forest_holds grow grown d i (x ∷ xs) each y h =
      ⊎_elim (grown x (d ++ (i ∷ [])) (each x (inl refl)) y) (forest_holds grow grown d (suc i) xs (λ z k. each z (inr k)) y)
      (has_append y (grow x (d ++ (i ∷ []))) (forest grow d (suc i) xs) h)

  module _ (groups : A → List (List A)) (passes : (x y : A) → P x → Has y (joined (groups x)) → P y) where
    tree_holds : (n : ℕ) (x : A) (d : List ℕ) → P x → (y : A × List ℕ) → Has y (tree groups n x d) → P y.0
    tree_holds zero x d p y (inl e) = subst (λ (z : A × List ℕ). P z.0) (sym e) p
    tree_holds zero x d p y (inr h) = absurd h
    tree_holds (suc n) x d p y (inl e) = subst (λ (z : A × List ℕ). P z.0) (sym e) p
    tree_holds (suc n) x d p y (inr h) = forest_holds (tree groups n) (tree_holds n) d 1 (joined (groups x)) (λ z. passes x z p) y h

-- ---- lines
module _ (t : List Node) where
  pub of_kind_lem : (k : ℕ) (r : Node) → Has r (of_kind t k) → Has r t × (r.kind ≡ k)
  unfolding of_kind
  of_kind_lem k r h = let i = keep-has (λ (r : Node). eqb r.kind k) r t h in (i.0, eqb-true r.kind k i.1)

  closest_of_kind : (x : Node) (k : ℕ) (r : Node) → Has r (closest_of t x k) → Has r t × (r.kind ≡ k)
  unfolding closest_of
  closest_of_kind x k r h = of_kind_lem k r (keep-has (meet_at (kinds_meet t x.kind k) x) r (of_kind t k) h).0

module _ (t : List Node) (s : Shape) where
  -- the row is a row of the table, and of the type of the entry
  abbrev OfType : ℕ → Node → Type 0
  OfType e r = Has r t × (r.kind ≡ kind s e)

  -- the same of both, as a line's tree holds them
  abbrev Paired : ℕ × Node → Type 0
  Paired x = OfType x.0 x.1

  top-rows : (x : ℕ × Node) → Has x (tops t s) → Paired x
  unfolding tops
  top-rows x h =
      let (r, hr, e) = map-has {B = ℕ × Node} (λ (r : Node). (0, r)) x (of_kind t (kind s 0)) h in
      subst Paired (sym e) (of_kind_lem t (kind s 0) r hr)

  beneath_rows : (x y : ℕ × Node) → Paired x → Has y (joined (beneath t s x)) → Paired y
  unfolding beneath
  beneath_rows x y p h =
      let rows : ℕ → List (ℕ × Node) = λ c. map (λ (r : Node). (c, r)) (closest_of t x.1 (kind s c)) in
      let (c, hc, i) = joined_has rows y (children s x.0) h in
      let (r, hr, e) = map-has {B = ℕ × Node} (λ (r : Node). (c, r)) y (closest_of t x.1 (kind s c)) i in
      subst Paired (sym e) (closest_of_kind t x.1 (kind s c) r hr)

  pub line_rows : (n : ℕ) (l : Line) → Has l (lines t s n) → Has l.source t × (l.source.kind ≡ kind s l.entry)
  unfolding lines
  line_rows n l h =
      let written = forest (tree (beneath t s) (pred n)) [] 1 (tops t s) in
      let (x, hx, e) = map-has (λ (x : (ℕ × Node) × List ℕ). record { entry = x.0.0; source = x.0.1; dewey = x.1 }) l written h in
      subst (λ (l : Line). OfType l.entry l.source) (sym e)
      (forest_holds Paired (tree (beneath t s) (pred n)) (tree_holds Paired (beneath t s) beneath_rows (pred n)) [] 1 (tops t s) top-rows x hx)
