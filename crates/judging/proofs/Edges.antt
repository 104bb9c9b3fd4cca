-- The numbers of each edge are the paper's, and an edge is full as the paper says. Assumes nothing.
use Prim.Native.Nat.{ℕ, zero, suc, ◌≤◌, ◌<◌}
use native.Mathlib.Omega.{arith}
use mathlib.Core.Path.{◌≡◌, refl, sym, ◌∙◌, ap, ap₂}
use mathlib.Core.Bool.{Bool, true, false, not}
use mathlib.Core.List.{List, ◌∷◌, map}
use lib.Dec.{eqb, leb}
use lib.ListN.{length, get_or, drop}
use lib.Seq.{ext_get_or}
use borrow.Author.Tests.{leb-true, leb-false}
use Rattle.paper.specs.Lists.{is_empty, least}
use Rattle.paper.specs.Format.{Format, most_entries}
use Rattle.paper.specs.Tables.{rows}
use Rattle.paper.specs.Closeness.{Node, nodes, of_kind, closest_number}
use Rattle.paper.specs.Shapes as Paper
use Rattle.paper.specs.Shapes.{numbers, kind, parent}
use Rattle.paper.specs.Partners.{child_numbers, parent_numbers, of_edges, greatest, edge_numbers}
use Rattle.paper.specs.Verdict.{full}
use Rattle.paper.proofs.Partners.{parent_type_has_row, kept_none, full_least}
use Rattle.paper.proofs.Edges.{edge_root, edge_each, edge_unused}
use Rattle.paper.proofs.Reread.{length-padded}
use Rattle.shapes.specs.Shape.{type_of, parent_of, edge_of}
use Rattle.shapes.specs.Tests.{shape_in}
use Rattle.shapes.specs.Work.{Work, Ready}
use Rattle.shapes.specs.declared.shape.Shape.{Shape}
use Rattle.partners.specs.Closest.{lone_rows, children_in, parents_in}
use Rattle.partners.specs.Edges.{OfEdges, Edged}
use Rattle.partners.specs.declared.edges.Edges.{Edges}
use Rattle.partners.proofs.Closest.{numbers_are}
use Rattle.partners.proofs.Rows.{own_joined}
use Rattle.judging.specs.Lone.{alone_of}
use Rattle.judging.specs.Full.{FullBy}
use Rattle.judging.specs.Told.{numbers_in}
use Rattle.judging.proofs.Closest.{alone_empty}
use Rattle.judging.proofs.Entries.{entry_in, over-is, meets_up}

-- each of the four lists has a place for each entry
pub record Long (edges : Edges) : Type 0 where
  pub least_children_lem : length edges.least_children ≡ most_entries
  pub greatest_children_lem : length edges.greatest_children ≡ most_entries
  pub least_parents_lem : length edges.least_parents ≡ most_entries
  pub greatest_parents_lem : length edges.greatest_parents ≡ most_entries

module _ (t : List Node) (p : Paper.Shape) (c : ℕ) where
  full_is : is_empty (alone_of t (kind p (parent p c)) (kind p c)) ≡ full t p c
  unfolding alone_of full
  full_is = kept_none (λ r. eqb (closest_number t (kind p c) r) 0) (of_kind t (kind p (parent p c)))

module _ {form : Format} {t sb : List ℕ} {w : Work} (r : Ready form t sb w) where
  abbrev ns : List Node
  ns = nodes (rows form t)

  -- the paper's shape
  abbrev p : Paper.Shape
  p = shape_in form t sb

  abbrev s : Shape
  s = w.shape

  -- ---- the numbers
  children_are : (c : ℕ) → c < s.entries → children_in w.levels w.types w.rows s c ≡ child_numbers ns p c
  unfolding child_numbers
  children_are c lt =
      numbers_are form w.rows t w.levels w.types r.levelled (edge_of s c) (type_of s (parent_of s c)) (type_of s c) (r.shaped.meets c lt)
      ∙ ap₂ (λ a b. map (closest_number ns b) (of_kind ns a)) (over-is r c lt) (r.holds.type_is c lt)

  parents_are : (c : ℕ) → c < s.entries → parents_in w.levels w.types w.rows s c ≡ parent_numbers ns p c
  unfolding parent_numbers
  parents_are c lt =
      numbers_are form w.rows t w.levels w.types r.levelled (edge_of s c) (type_of s c) (type_of s (parent_of s c)) (meets_up r c lt)
      ∙ ap₂ (λ a b. map (closest_number ns b) (of_kind ns a)) (r.holds.type_is c lt) (over-is r c lt)

  -- the places of a figure of each edge's numbers are the paper's
  module _ (found numbered : ℕ → List ℕ) (same : (c : ℕ) → c < s.entries → found c ≡ numbered c) (figure : List ℕ → ℕ) (xs : List ℕ) where
    abbrev wanted : ℕ → ℕ
    wanted c = figure (numbered c)

    figures_are : length xs ≡ most_entries → OfEdges w.levels w.types w.rows s (λ c. figure (found c)) xs → xs ≡ of_edges p wanted
    figures_are long of =
        ext_get_or 0 xs (of_edges p wanted) (long ∙ sym (length-padded most_entries (0 ∷ map wanted (drop 1 (numbers p)))))
        (λ c lt. at c (omega (arith, long)) (leb s.entries c) refl)
      where
        few : length p.ways ≤ most_entries
        few = omega (arith, r.holds.counted, r.shaped.sized.few)

        at : (c : ℕ) → c < most_entries → (b : Bool) → leb s.entries c ≡ b → get_or xs c 0 ≡ get_or (of_edges p wanted) c 0
        at c lt true e =
            let le = leb-true s.entries c e in
            of.unused c le lt ∙ sym (edge_unused p wanted few c (omega (arith, r.holds.counted, le)))
        at zero lt false e = of.root ∙ sym (edge_root p wanted few)
        at (suc c) lt false e =
            let inside = leb-false s.entries (suc c) e in
            of.each (suc c) (omega arith) inside ∙ ap figure (same (suc c) inside)
            ∙ sym (edge_each p wanted few (suc c) (omega arith) (omega (arith, r.holds.counted, inside)))

  module _ (edges : Edges) (walked : Edged w.levels w.types w.rows w.shape edges) where
    pub edges_are : Long edges → numbers_in edges ≡ edge_numbers (nodes (rows form t)) (shape_in form t sb)
    unfolding edge_numbers
    edges_are long =
        let children = figures_are (children_in w.levels w.types w.rows s) (child_numbers ns p) children_are in
        let parents = figures_are (parents_in w.levels w.types w.rows s) (parent_numbers ns p) parents_are in
        λ i. record {
          least_children = children least edges.least_children long.least_children_lem walked.least_children_lem i;
          greatest_children = children greatest edges.greatest_children long.greatest_children_lem walked.greatest_children_lem i;
          least_parents = parents least edges.least_parents long.least_parents_lem walked.least_parents_lem i;
          greatest_parents = parents greatest edges.greatest_parents long.greatest_parents_lem walked.greatest_parents_lem i;
        }

    -- ---- full edges
    -- entry 0 is its own parent, and no row of its type is without itself
    root_full : full ns p 0 ≡ true
    root_full =
        let pos = r.shaped.sized.some in
        sym (full_is ns p 0) ∙ sym (ap₂ (λ a b. is_empty (alone_of ns a b)) (over-is r 0 pos) (r.holds.type_is 0 pos))
        ∙ alone_empty form w.rows t w.levels w.types r.levelled (edge_of s 0) (type_of s (parent_of s 0)) (type_of s 0) (r.shaped.meets 0 pos)
        ∙ ap (λ e. is_empty (lone_rows w.levels w.types w.rows (edge_of s 0) (type_of s e) (type_of s 0))) r.shaped.sized.root
        ∙ own_joined w.levels w.types w.rows (edge_of s 0) (type_of s 0)

    pub fulls_are : (fulls : List Bool) → FullBy edges.least_children fulls
        → (c : ℕ) → c < w.shape.entries → get_or fulls c false ≡ full (nodes (rows form t)) (shape_in form t sb) c
    fulls_are fulls by zero lt = by.root ∙ sym root_full
    fulls_are fulls by (suc c) lt =
        let (q, h) = parent_type_has_row form t sb _ r.given_is (suc c) (entry_in r (suc c) lt) in
        by.each (suc c) (omega arith) (omega (arith, r.shaped.sized.few))
        ∙ ap (λ n. not (eqb n 0)) (walked.least_children_lem.each (suc c) (omega arith) lt ∙ ap least (children_are (suc c) lt))
        ∙ sym (full_least ns p (suc c) q h)
