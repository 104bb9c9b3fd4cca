-- How many partners: the numbers of closest rows along each edge, which is named by its lower entry. Assumes nothing.
use Rattle.std.specs.Prelude.{ℕ, List, ◌∷◌, map, drop, replicate}
use Rattle.paper.specs.Lists.{least, most, padded}
use Rattle.paper.specs.Format.{most_entries}
use Rattle.paper.specs.Closeness.{Node, of_kind, closest_number}
use Rattle.paper.specs.Shapes.{Shape, kind, parent, numbers}

module _ (t : List Node) (s : Shape) where
  -- The numbers of children under a parent row: for each row of the parent entry's type, shown or not, its closest rows of the entry's type.
  unfoldable pub child_numbers : ℕ → List ℕ
  child_numbers e = map (closest_number t (kind s e)) (of_kind t (kind s (parent s e)))

  -- The numbers of parents of a child row: for each row of the entry's type its partners.
  unfoldable pub parent_numbers : ℕ → List ℕ
  parent_numbers e = map (closest_number t (kind s (parent s e))) (of_kind t (kind s e))

-- For each of 16 entries: the least and the greatest number of children under a parent row, and of parents of a child row.
pub record EdgeNumbers : Type 0 where
  pub least_children : List ℕ
  pub greatest_children : List ℕ
  pub least_parents : List ℕ
  pub greatest_parents : List ℕ

-- a figure of each entry but the first; entry 0 and unused entries hold zeros
abbrev pub of_edges : Shape → (ℕ → ℕ) → List ℕ
of_edges s figure = padded most_entries (0 ∷ map figure (drop 1 (numbers s)))

-- the greatest of a list, 0 where there is none
abbrev pub greatest : List ℕ → ℕ
greatest ns = most (λ n. n) ns

-- Least and greatest numbers both ways, for each edge.
unfoldable pub edge_numbers : List Node → Shape → EdgeNumbers
edge_numbers t s = record {
  least_children = of_edges s (λ e. least (child_numbers t s e));
  greatest_children = of_edges s (λ e. greatest (child_numbers t s e));
  least_parents = of_edges s (λ e. least (parent_numbers t s e));
  greatest_parents = of_edges s (λ e. greatest (parent_numbers t s e));
}

-- Where judging refuses, all are zero.
abbrev pub no_edges : EdgeNumbers
no_edges = let zeros : List ℕ = replicate most_entries 0 in
    record { least_children = zeros; greatest_children = zeros; least_parents = zeros; greatest_parents = zeros }
