-- Closest rows told by the rows' levels and types are the paper's, and so are their numbers. Assumes nothing.
use Prim.Native.Nat.{ℕ, ◌<◌}
use native.Mathlib.Omega.{arith}
use mathlib.Core.Path.{◌≡◌, refl, sym, ◌∙◌, ap}
use mathlib.Core.Bool.{Bool, true, false, ◌&&◌}
use mathlib.Core.List.{List, [], ◌∷◌, map, map-map}
use lib.Dec.{eqb}
use lib.ListN.{length, get_or, length-map}
use borrow.Author.Tests.{eqb-true}
use Rattle.paper.specs.Lists.{Has, keep, count}
use Rattle.paper.specs.Format.{Format}
use Rattle.paper.specs.Tables as Tables
use Rattle.paper.specs.Closeness.{Node, nodes, of_kind, kinds_meet, meet_at, closest_of, closest_number}
use Rattle.paper.proofs.Lists.{keep-has, count-has, map_same}
use Rattle.paper.proofs.Kept.{keep_same, keep-map}
use Rattle.closest.specs.Node.{node, Typed}
use Rattle.closest.specs.Runs.{Levelled, start_of}
use Rattle.closest.proofs.Meets.{kind_at, nodes_are}
use Rattle.closest.proofs.Starts.{same-run}
use Rattle.partners.specs.Closest.{closest_rows, numbers_of}

-- ---- what is kept
module _ {A : Type 0} where
  keep-keep : (p q : A → Bool) (xs : List A) → keep p (keep q xs) ≡ keep (λ x. q x && p x) xs
  keep-keep p q [] = refl
  keep-keep p q (x ∷ xs) = go (q x) (p x) refl refl (keep-keep p q xs)
    where
      go : (b c : Bool) → q x ≡ b → p x ≡ c → keep p (keep q xs) ≡ keep (λ x. q x && p x) xs → keep p (keep q (x ∷ xs)) ≡ keep (λ x. q x && p x) (x ∷ xs)
      go true true e d ih = rw (e, d, keep) (ap {B = List A} (λ l. x ∷ l) ih)
      go true false e d ih = rw (e, d, keep) ih
      go false c e d ih = rw (e, keep) ih

-- a test that is only asked where the former holds
and_same : (a : Bool) {c d : Bool} → (a ≡ true → c ≡ d) → (a && c) ≡ (a && d)
and_same true h = h refl
and_same false h = refl

module _ (f : Format) (rows : ℕ) (t levels types : List ℕ) (lv : Levelled f rows t levels types) where
  abbrev ns : List Node
  ns = nodes (Tables.rows f t)

  abbrev at : ℕ → Node
  at i = node f t i

  abbrev ty : Typed f rows t types
  ty = lv.typed

  -- the rows of a type
  of_kind_lem : (k : ℕ) → of_kind ns k ≡ map at (keep (λ i. eqb (get_or types i 0) k) (count 0 rows))
  unfolding of_kind
  of_kind_lem k =
      ap (keep (λ (r : Node). eqb r.kind k)) (nodes_are f rows t types ty) ∙ keep-map (λ (r : Node). eqb r.kind k) at (count 0 rows)
      ∙ ap (map at) (keep_same (λ i. eqb (at i).kind k) (λ i. eqb (get_or types i 0) k) (count 0 rows)
      (λ i h. ap (λ x. eqb x k) (sym (kind_at f rows t types ty i (omega (arith, count-has 0 rows i h))))))

  -- those that pass a test
  pub of_type_lem : (p : Node → Bool) (k : ℕ) (q : ℕ → Bool) → ((i : ℕ) → i < rows → get_or types i 0 ≡ k → p (at i) ≡ q i)
      → keep p (of_kind ns k) ≡ map at (keep (λ i. eqb (get_or types i 0) k && q i) (count 0 rows))
  of_type_lem p k q same =
      ap (keep p) (of_kind_lem k) ∙ keep-map p at (keep (λ i. eqb (get_or types i 0) k) (count 0 rows))
      ∙ ap (map at) (keep-keep (λ i. p (at i)) (λ i. eqb (get_or types i 0) k) (count 0 rows)
      ∙ keep_same (λ i. eqb (get_or types i 0) k && p (at i)) (λ i. eqb (get_or types i 0) k && q i) (count 0 rows)
      (λ i h. and_same (eqb (get_or types i 0) k) (λ e. same i (omega (arith, count-has 0 rows i h)) (eqb-true (get_or types i 0) k e))))

  -- the closest rows of a row are those of the type in its run
  pub closest_rows_lem : (l b i : ℕ) → i < rows → l ≡ kinds_meet (nodes (Tables.rows f t)) (get_or types i 0) b
      → closest_of (nodes (Tables.rows f t)) (node f t i) b ≡ map (node f t) (closest_rows levels types rows l b i)
  unfolding closest_of closest_rows
  closest_rows_lem l b i li el = of_type_lem (meet_at (kinds_meet ns (at i).kind b) (at i)) b (λ j. eqb (start_of levels l i) (start_of levels l j)) (λ j lj own.
      ap (λ m. meet_at m (at i) (at j)) (ap (λ k. kinds_meet ns k b) (sym (kind_at f rows t types ty i li)) ∙ sym el)
      ∙ same-run f rows t levels types lv i j l li lj (el ∙ ap (kinds_meet ns (get_or types i 0)) (sym own)))

  -- so the numbers of the rows of a type are those of its nodes
  pub numbers_are : (l a b : ℕ) → l ≡ kinds_meet (nodes (Tables.rows f t)) a b
      → numbers_of levels types rows l a b ≡ map (closest_number (nodes (Tables.rows f t)) b) (of_kind (nodes (Tables.rows f t)) a)
  unfolding numbers_of closest_number
  numbers_are l a b el =
      map_same (λ i. length (closest_rows levels types rows l b i)) (λ i. closest_number ns b (at i)) own each
      ∙ sym (map-map (closest_number ns b) at own) ∙ sym (ap (map (closest_number ns b)) (of_kind_lem a))
    where
      own : List ℕ
      own = keep (λ i. eqb (get_or types i 0) a) (count 0 rows)

      each : (i : ℕ) → Has i own → length (closest_rows levels types rows l b i) ≡ closest_number ns b (at i)
      each i h =
          let (c, e) = keep-has (λ i. eqb (get_or types i 0) a) i (count 0 rows) h in
          let lt : i < rows = omega (arith, count-has 0 rows i c) in
          sym (length-map (closest_rows levels types rows l b i) at)
          ∙ sym (ap length (closest_rows_lem l b i lt (el ∙ ap (λ k. kinds_meet ns k b) (sym (eqb-true (get_or types i 0) a e)))))
