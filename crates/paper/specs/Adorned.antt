-- The adorned shape. Assumes nothing.
use Rattle.std.specs.Prelude.{ℕ, suc, Bool, true, false, List, [], ◌∷◌, map, eqb, length}
use Rattle.paper.specs.Lists
use Rattle.paper.specs.Lists.{keep, last_or, same, up}
use Rattle.paper.specs.Format.{most_types}
use Rattle.paper.specs.Tables.{Row, types, type_number}
use Rattle.paper.specs.Closeness.{Node, nodes, of_kind}

pub record Summary : Type 0 where
  pub parent : ℕ  -- the parent type's number, 64 for none
  pub label : ℕ  -- the last label
  pub level : ℕ
  pub rows : ℕ  -- the number of rows
  pub least : ℕ  -- the least number of children of this type under a row of the parent type
  pub greatest : ℕ  -- the greatest such number

module _ (t : List Node) where
  -- the number of children of type k under a row
  unfoldable pub children_of : ℕ → Node → ℕ
  children_of k r = length (keep (λ (s : Node). same (up s.dewey) r.dewey) (of_kind t k))

  -- Rows of the parent with no such child count as 0. A root type has its row count as both figures.
  unfoldable pub counts : Bool → ℕ → ℕ → List ℕ
  counts root p k = elim root [ true ↦ length (of_kind t k) ∷ [] | false ↦ map (children_of k) (of_kind t p) ]

  -- the summary of type k, which has these labels, among the types ts
  unfoldable pub summary : List (List ℕ) → ℕ → List ℕ → Summary
  summary ts k labels =
      let root = eqb (length labels) 1 in
      let p = type_number ts (up labels) in
      let cs = counts root p k in
      record {
        parent = elim root [ true ↦ most_types | false ↦ p ];
        label = last_or 0 labels;
        level = length labels;
        rows = length (of_kind t k);
        least = Lists.least cs;
        greatest = Lists.most (λ n. n) cs;
      }

  abbrev pub summaries_from : List (List ℕ) → ℕ → List (List ℕ) → List Summary
  summaries_from ts k [] = []
  summaries_from ts k (x ∷ xs) = summary ts k x ∷ summaries_from ts (suc k) xs

-- one summary per type, in type order
unfoldable pub adorned : List Row → List Summary
adorned rs = let ts = types rs in summaries_from (nodes rs) ts 0 ts
