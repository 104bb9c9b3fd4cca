-- How many rows are of a type. Assumes nothing.
use Prim.Native.Nat.{ℕ, suc, ◌+◌, ◌≤◌, ◌<◌}
use native.Mathlib.Numerals.{add-one}
use native.Mathlib.Omega.{arith}
use mathlib.Core.Path.{◌≡◌, refl, sym, ◌∙◌, ap, ap₂}
use mathlib.Core.Bool.{Bool, true, false}
use mathlib.Core.List.{List, [], ◌∷◌, map}
use lib.Dec.{eqb}
use lib.ListN.{length, get_or, take, drop, drop_of_length-le, length-map}
use lib.Seq.{drop-cons}
use borrow.Author.Tests.{eq-eqb, ne_eqb}
use Rattle.paper.specs.Lists.{keep}
use Rattle.paper.specs.Format.{Format}
use Rattle.paper.specs.Tables.{rows, dewey, row_types}
use Rattle.paper.specs.Closeness.{Node, nodes_from, nodes, of_kind}
use Rattle.types.specs.Types.{kinds}
use Rattle.closest.specs.Node.{Typed}
use Rattle.closest.proofs.Nodes.{length-kinds}

-- how many are of type k
abbrev many : ℕ → List ℕ → ℕ
many k l = length (keep (λ x. eqb x k) l)

rest_at : (l : List ℕ) (i x : ℕ) → i < length l → x ≡ get_or l i 0 → drop i l ≡ x ∷ drop (i + 1) l
rest_at l i x lt e = drop-cons l i 0 lt ∙ ap₂ {C = List ℕ} (λ y n. y ∷ drop n l) (sym e) (sym (add-one i))

-- c are counted before place i, and those from there on are still to count
pub record Counting (l : List ℕ) (k c i : ℕ) : Type 0 where
  pub inside : i ≤ length l
  pub counted : c ≤ i
  pub so_far : c + length (keep (λ x. eqb x k) (drop i l)) ≡ length (keep (λ x. eqb x k) l)

module _ (l : List ℕ) (k c i x : ℕ) (w : Counting l k c i) (lt : i < length l) (e : x ≡ get_or l i 0) where
  pub counting_more : x ≡ k → Counting l k (c + 1) (i + 1)
  counting_more q =
      let one : many k (drop i l) ≡ suc (many k (drop (i + 1) l)) = ap (many k) (rest_at l i x lt e) ∙ rw (eq-eqb x k q, keep) refl in
      record { inside = omega arith; counted = omega (arith, w.counted); so_far = omega (arith, w.so_far) }

  pub counting_same : (x ≡ k → ⊥) → Counting l k c (i + 1)
  counting_same ne =
      let none : many k (drop i l) ≡ many k (drop (i + 1) l) = ap (many k) (rest_at l i x lt e) ∙ rw (ne_eqb x k ne, keep) refl in
      record { inside = omega arith; counted = omega (arith, w.counted); so_far = omega (arith, w.so_far) }

pub counting_end : (l : List ℕ) (k c i : ℕ) → Counting l k c i → length l ≤ i → c ≡ length (keep (λ x. eqb x k) l)
counting_end l k c i w le = omega (arith, w.so_far, ap (many k) (drop_of_length-le l {i = i} le))

-- ---- the rows' type numbers are the nodes' kinds
abbrev pub kinds_of : List Node → List ℕ
kinds_of t = map (λ (x : Node). x.kind) t

kinds-nodes : (i : ℕ) (ks : List ℕ) (ds : List (List ℕ)) → length ks ≡ length ds → kinds_of (nodes_from i ks ds) ≡ ks
kinds-nodes i [] [] e = refl
kinds-nodes i [] (d ∷ ds) e = let z : ⊥ = omega arith in absurd z
kinds-nodes i (k ∷ ks) [] e = let z : ⊥ = omega arith in absurd z
kinds-nodes i (k ∷ ks) (d ∷ ds) e = ap {B = List ℕ} (λ l. k ∷ l) (kinds-nodes (suc i) ks ds (omega arith))

pub kinds_of_lem : (f : Format) (t : List ℕ) → kinds_of (nodes (rows f t)) ≡ kinds (rows f t)
unfolding nodes kinds row_types
kinds_of_lem f t = kinds-nodes 0 (kinds (rows f t)) (map dewey (rows f t)) (length-kinds f t ∙ sym (length-map (rows f t) dewey))

many_kind : (t : List Node) (k : ℕ) → many k (kinds_of t) ≡ length (of_kind t k)
unfolding of_kind
many_kind [] k = refl
many_kind (x ∷ t) k = go (eqb x.kind k) refl (many_kind t k)
  where
    go : (b : Bool) → eqb x.kind k ≡ b → many k (kinds_of t) ≡ length (keep (λ (r : Node). eqb r.kind k) t)
        → many k (kinds_of (x ∷ t)) ≡ length (keep (λ (r : Node). eqb r.kind k) (x ∷ t))
    go true e ih = rw (e, keep) (ap suc ih)
    go false e ih = rw (e, keep) ih

-- the rows of type k among the type numbers are the nodes of kind k
pub kinds-count : (f : Format) (n : ℕ) (t ks : List ℕ) → Typed f n t ks → (k : ℕ)
    → length (keep (λ x. eqb x k) (take n ks)) ≡ length (of_kind (nodes (rows f t)) k)
kinds-count f n t ks ty k =
    ap (many k) (ty.listed ∙ sym (kinds_of_lem f t)) ∙ many_kind (nodes (rows f t)) k
