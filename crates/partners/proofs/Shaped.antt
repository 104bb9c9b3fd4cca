-- What is found of the edges of a shape, from its two groups of eight entries. Assumes nothing.
use Prim.Native.Nat.{ℕ, zero, suc, ◌≤◌, ◌<◌}
use native.Mathlib.Omega.{arith}
use mathlib.Core.Path.{◌≡◌, refl, sym, ◌∙◌, ap, subst}
use mathlib.Core.Logic.{inl, inr}
use mathlib.Core.Bool.{true}
use mathlib.Core.List.{List, [], ◌∷◌}
use lib.Dec.{eqb}
use lib.ListN.{length, get_or}
use Rattle.paper.specs.Lists.{Has, keep, is_empty, count, least}
use Rattle.paper.specs.Format.{most_entries}
use Rattle.paper.specs.Partners.{greatest}
use Rattle.paper.proofs.Lists.{map-has, least_reached, most_le}
use Rattle.closest.specs.Runs.{Rows}
use Rattle.shapes.specs.Shape.{type_of, parent_of, edge_of, Sized}
use Rattle.shapes.specs.declared.shape.Shape.{Shape}
use Rattle.partners.specs.Closest.{closest_rows, numbers_of, lone_rows, alone_rows, children_in, parents_in, least_or}
use Rattle.partners.specs.Eight.{places, no_number}
use Rattle.partners.specs.Edges.{MetBefore, AllMet, OfEdges, Edged, EachFrom, NoEdge, Figure, LoneEnd, Found}
use Rattle.partners.specs.Edges.{of_entry, or_zero, Spread, FirstAlone, EndWithin, RunStart}
use Rattle.partners.specs.declared.eight.Eight.{Eight}
use Rattle.partners.specs.declared.edges.Edges.{Edges}
use Rattle.partners.proofs.Rows.{own_joined}
use Rattle.partners.proofs.Counted.{number_le}
use Rattle.partners.proofs.Groups.{zero_of, one_of, each-entry}

-- ---- the least and the greatest of some numbers as they are told
least-told : (ns : List ℕ) → ((n : ℕ) → Has n ns → n < no_number) → or_zero (least_or ns) ≡ least ns
least-told [] few = zero_of no_number refl
least-told (x ∷ xs) few = one_of (least (x ∷ xs)) (λ e. omega (arith, few (least (x ∷ xs)) (least_reached x xs), e))

greatest-told : (ns : List ℕ) (m : ℕ) → m < no_number → ((n : ℕ) → Has n ns → n ≤ m) → or_zero (greatest ns) ≡ greatest ns
greatest-told ns m lt few = one_of (greatest ns) (λ e. omega (arith, most_le (λ n. n) m ns few, e))

module _ (levels types : List ℕ) (rows : ℕ) (rs : Rows rows levels types) (s : Shape) (sized : Sized s) where
  numbers_few : (l a b n : ℕ) → Has n (numbers_of levels types rows l a b) → n ≤ rows
  unfolding numbers_of
  numbers_few l a b n h =
      let (i, k, e) = map-has (λ i. length (closest_rows levels types rows l b i)) n (keep (λ i. eqb (get_or types i 0) a) (count 0 rows)) h in
      omega (arith, e, number_le levels types rows l b i)

  least_numbers : (l a b : ℕ) → or_zero (least_or (numbers_of levels types rows l a b)) ≡ least (numbers_of levels types rows l a b)
  least_numbers l a b = least-told (numbers_of levels types rows l a b) (λ n h. omega (arith, numbers_few l a b n h, rs.few))

  greatest_numbers : (l a b : ℕ) → or_zero (greatest (numbers_of levels types rows l a b)) ≡ greatest (numbers_of levels types rows l a b)
  greatest_numbers l a b = greatest-told (numbers_of levels types rows l a b) rows (omega (arith, rs.few)) (numbers_few l a b)

  -- ---- one array: the number of each edge, as it is told
  spread_edges : (numbers : ℕ → List ℕ) (found told : List ℕ → ℕ) (none : ℕ) (low high xs : List ℕ) → or_zero none ≡ 0
      → ((c : ℕ) → or_zero (found (numbers c)) ≡ told (numbers c)) → EachFrom 0 (λ c. Figure s c (found (numbers c)) none) low
      → EachFrom places (λ c. Figure s c (found (numbers c)) none) high → Spread low high xs → OfEdges levels types rows s (λ c. told (numbers c)) xs
  spread_edges numbers found told none low high xs nothing same below above spread = record {
    root = gone 0 (omega arith) (inl refl);
    each = λ c pos lt. let less : c < most_entries = omega (arith, lt, sized.few) in spread c less ∙ ap or_zero ((here c less).has pos lt) ∙ same c;
    unused = λ c le lt. gone c lt (inr le);
  }
    where
      here : (c : ℕ) → c < most_entries → Figure s c (found (numbers c)) none (of_entry low high c)
      here = each-entry (λ c. Figure s c (found (numbers c)) none) low high below above

      gone : (c : ℕ) → c < most_entries → NoEdge s c → get_or xs c 0 ≡ 0
      gone c lt lacks = spread c lt ∙ ap or_zero ((here c lt).lacks lacks) ∙ nothing

  -- ---- the first entry that has a row without a partner
  module _ {low high : Eight} (below : Found levels types rows s 0 low) (above : Found levels types rows s places high) where
    lone_end : (c : ℕ) → 1 ≤ c → c < s.entries → LoneEnd levels types rows s c (of_entry low.lone high.lone c)
    lone_end c pos lt =
        each-entry (λ c x. 1 ≤ c → c < s.entries → LoneEnd levels types rows s c x) low.lone high.lone below.lone_ends above.lone_ends c
        (omega (arith, lt, sized.few)) pos lt

    -- the first entry is its own parent
    root_met : is_empty (alone_rows levels types rows s 0) ≡ true
    root_met =
        ap (λ p. is_empty (lone_rows levels types rows (edge_of s 0) (type_of s 0) (type_of s p))) sized.root
        ∙ own_joined levels types rows (edge_of s 0) (type_of s 0)

    module _ {met : ℕ} (first : FirstAlone low.lone high.lone s.entries met) where
      pub end_within : EndWithin (length levels) s low.lone high.lone met
      end_within lt =
          let (a, b) = (lone_end met first.some lt).inside (first.here lt) in
          (a, omega (arith, b, rs.levels_long))

      all_met : {from : ℕ} → RunStart levels s low.lone high.lone met from → AllMet levels types rows s met from
      all_met start = record {
        some = first.some;
        few = first.few;
        each = each;
        before = λ lt. subst (MetBefore levels types rows s met) (sym (start lt)) ((lone_end met first.some lt).before (first.here lt));
      }
        where
          each : (c : ℕ) → c < met → is_empty (alone_rows levels types rows s c) ≡ true
          each zero lt = root_met
          each (suc c) lt = (lone_end (suc c) (omega arith) (omega (arith, lt, first.few))).none (first.passed (suc c) lt (omega arith))

    -- ---- all of it
    pub edged : (edges : Edges) → Spread low.least_children high.least_children edges.least_children
        → Spread low.greatest_children high.greatest_children edges.greatest_children
        → Spread low.least_parents high.least_parents edges.least_parents
        → Spread low.greatest_parents high.greatest_parents edges.greatest_parents
        → FirstAlone low.lone high.lone s.entries edges.met → RunStart levels s low.lone high.lone edges.met edges.from
        → Edged levels types rows s edges
    edged edges lc gc lp gp first start = record {
      least_children_lem = spread_edges (children_in levels types rows s) least_or least no_number low.least_children high.least_children
          edges.least_children refl (λ c. least_numbers (edge_of s c) (type_of s (parent_of s c)) (type_of s c))
          below.least_children_lem above.least_children_lem lc;
      greatest_children_lem = spread_edges (children_in levels types rows s) greatest greatest 0 low.greatest_children high.greatest_children
          edges.greatest_children refl (λ c. greatest_numbers (edge_of s c) (type_of s (parent_of s c)) (type_of s c))
          below.greatest_children_lem above.greatest_children_lem gc;
      least_parents_lem = spread_edges (parents_in levels types rows s) least_or least no_number low.least_parents high.least_parents
          edges.least_parents refl (λ c. least_numbers (edge_of s c) (type_of s c) (type_of s (parent_of s c)))
          below.least_parents_lem above.least_parents_lem lp;
      greatest_parents_lem = spread_edges (parents_in levels types rows s) greatest greatest 0 low.greatest_parents high.greatest_parents
          edges.greatest_parents refl (λ c. greatest_numbers (edge_of s c) (type_of s c) (type_of s (parent_of s c)))
          below.greatest_parents_lem above.greatest_parents_lem gp;
      all_met = all_met first start;
      alone = λ lt. (lone_end _ first.some lt).alone (first.here lt);
    }
