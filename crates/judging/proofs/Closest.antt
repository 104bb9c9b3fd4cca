-- Rows without a partner, told by the rows' levels and types, are the paper's. Assumes nothing.
use Prim.Native.Nat.{ℕ}
use mathlib.Core.Path.{◌≡◌, refl, sym, ◌∙◌, ap}
use mathlib.Core.List.{List, [], ◌∷◌, map}
use lib.Dec.{eqb}
use Rattle.paper.specs.Lists.{is_empty}
use Rattle.paper.specs.Format.{Format}
use Rattle.paper.specs.Tables as Tables
use Rattle.paper.specs.Closeness.{Node, nodes, kinds_meet, closest_number}
use Rattle.paper.specs.Verdict.{Verdict, missing}
use Rattle.paper.proofs.Closeness.{closest-none}
use Rattle.closest.specs.Node.{node}
use Rattle.closest.specs.Runs.{Levelled}
use Rattle.partners.specs.Closest.{closest_rows, lone_rows}
use Rattle.partners.proofs.Closest.{of_type_lem, closest_rows_lem}
use Rattle.judging.specs.Lone.{alone_of}

module _ {A B : Type 0} where
  empty_map : (g : A → B) (xs : List A) → is_empty (map g xs) ≡ is_empty xs
  empty_map g [] = refl
  empty_map g (x ∷ xs) = refl

module _ (f : Format) (rows : ℕ) (t levels types : List ℕ) (lv : Levelled f rows t levels types) where
  abbrev ns : List Node
  ns = nodes (Tables.rows f t)

  abbrev at : ℕ → Node
  at i = node f t i

  -- the rows that have none are those in whose run none stands
  pub alone_rows_lem : (l a b : ℕ) → l ≡ kinds_meet (nodes (Tables.rows f t)) a b
      → alone_of (nodes (Tables.rows f t)) a b ≡ map (node f t) (lone_rows levels types rows l a b)
  unfolding alone_of lone_rows
  alone_rows_lem l a b el = of_type_lem f rows t levels types lv (λ r. eqb (closest_number ns b r) 0) a (λ i. is_empty (closest_rows levels types rows l b i)) (λ i li own.
      closest-none ns b (at i) ∙ ap is_empty (closest_rows_lem f rows t levels types lv l b i li (el ∙ ap (λ k. kinds_meet ns k b) (sym own)))
      ∙ empty_map at (closest_rows levels types rows l b i))

  pub alone_empty : (l a b : ℕ) → l ≡ kinds_meet (nodes (Tables.rows f t)) a b
      → is_empty (alone_of (nodes (Tables.rows f t)) a b) ≡ is_empty (lone_rows levels types rows l a b)
  alone_empty l a b el = ap is_empty (alone_rows_lem l a b el) ∙ empty_map at (lone_rows levels types rows l a b)

  -- each row is told by its place
  places : (e : ℕ) (xs : List ℕ) → map (λ (r : Node). missing e r.place) (map at xs) ≡ map (missing e) xs
  places e [] = refl
  places e (x ∷ xs) = ap {B = List Verdict} (λ l. missing e x ∷ l) (places e xs)

  pub alone_missing : (e l a b : ℕ) → l ≡ kinds_meet (nodes (Tables.rows f t)) a b
      → map (λ (r : Node). missing e r.place) (alone_of (nodes (Tables.rows f t)) a b) ≡ map (missing e) (lone_rows levels types rows l a b)
  alone_missing e l a b el = ap (map (λ (r : Node). missing e r.place)) (alone_rows_lem l a b el) ∙ places e (lone_rows levels types rows l a b)
