-- What the numbers of each edge say of rows, of the verdict and of the lines of a new table, over bytes. Assumes nothing.
use Rattle.std.specs.Prelude.{ℕ, ◌≤◌, ◌<◌, ◌≡◌, ◌⊎◌, ◌↔◌, ◌&&◌, not, List, eqb, length, get_or}
use Rattle.paper.specs.Lists.{Has, Range, keep, same, up}
use Rattle.paper.specs.Format.{Format}
use Rattle.paper.specs.Tables.{rows, types}
use Rattle.paper.specs.Closeness.{Node, nodes, of_kind, closest_number}
use Rattle.paper.specs.Shapes.{Shape, entries, shape_over, kind, parent, children}
use Rattle.paper.specs.Partners.{EdgeNumbers}
use Rattle.paper.specs.Verdict.{missing, full}
use Rattle.paper.specs.Calls.{judge}
use Rattle.paper.specs.Links.{new_nodes, source_row}

-- what the four places of entry e hold
pub record Holds (x : EdgeNumbers) (e least_children greatest_children least_parents greatest_parents : ℕ) : Type 0 where
  pub least_children_lem : get_or x.least_children e 0 ≡ least_children
  pub greatest_children_lem : get_or x.greatest_children e 0 ≡ greatest_children
  pub least_parents_lem : get_or x.least_parents e 0 ≡ least_parents
  pub greatest_parents_lem : get_or x.greatest_parents e 0 ≡ greatest_parents

-- e is the first of n entries, but for entry 0, whose figure is 0
pub record FirstNone (figure : ℕ → ℕ) (n e : ℕ) : Type 0 where
  pub later : 1 ≤ e
  pub inside : e < n
  pub none : figure e ≡ 0
  pub before : (g : ℕ) → 1 ≤ g → g < e → figure g ≡ 0 → ⊥

module _ (f : Format) (table shape : List ℕ) where
  abbrev t : List Node
  t = nodes (rows f table)

  abbrev s : Shape
  s = shape_over (types (rows f table)) (entries f shape)

  -- The numbers of each edge agree with rows and verdict.
  pub record EdgesAgree (x : EdgeNumbers) : Type 0 where
    -- entry 0 and entries past the last hold zeros
    pub zeros : (e : ℕ) → (e ≡ 0) ⊎ (length (entries f shape) ≤ e) → Holds x e 0 0 0 0
    -- the number of children of every row of the parent entry's type lies between the two, and both are reached
    pub children_range : (e : ℕ) → 1 ≤ e → e < length (entries f shape)
        → Range (closest_number t (kind s e)) (of_kind t (kind s (parent s e))) (get_or x.least_children e 0) (get_or x.greatest_children e 0)
    -- so does the number of parents of every row of the entry's type
    pub parents_range : (e : ℕ) → 1 ≤ e → e < length (entries f shape)
        → Range (closest_number t (kind s (parent s e))) (of_kind t (kind s e)) (get_or x.least_parents e 0) (get_or x.greatest_parents e 0)
    -- an edge is full exactly when its least number of children is not 0
    pub full_least : (e : ℕ) → 1 ≤ e → e < length (entries f shape) → full t s e ≡ not (eqb (get_or x.least_children e 0) 0)
    -- the verdict is 1 at entry e exactly when e is the first whose least number of parents is 0
    pub missing_first : (e : ℕ)
        → ((r : ℕ) × ((judge f table shape).rest.verdict ≡ missing e r)) ↔ FirstNone (λ e. get_or x.least_parents e 0) (length (entries f shape)) e

  -- ---- the lines of a new table
  module _ (new sources : List ℕ) where
    -- the lines of entry c directly beneath line x
    abbrev pub lines_under : Node → ℕ → List Node
    lines_under x c = keep (λ (y : Node). same (up y.dewey) x.dewey && eqb y.kind c) (new_nodes f new sources)

    -- Each line's source row is a row of the table, and directly beneath the line stand of each child entry as many lines as that row has closest
    -- rows of that entry's type.
    abbrev pub ChildrenShown : Type 0
    ChildrenShown =
        (x : Node) → Has x (new_nodes f new sources) → (q : Node) × Has q t × (q.place ≡ source_row sources x)
        × ((c : ℕ) → Has c (children s x.kind) → length (lines_under x c) ≡ closest_number t (kind s c) q)

    -- Their number lies between the least and the greatest number of children that judging says of that entry.
    abbrev pub ChildrenBetween : Type 0
    ChildrenBetween =
        (x : Node) → Has x (new_nodes f new sources) → (c : ℕ) → Has c (children s x.kind)
        → (get_or (judge f table shape).rest.edges.least_children c 0 ≤ length (lines_under x c))
        × (length (lines_under x c) ≤ get_or (judge f table shape).rest.edges.greatest_children c 0)
