-- What is found of the edges of a shape. Assumes nothing.
use Rattle.std.specs.Prelude.{ℕ, ◌+◌, ◌-◌, ◌≤◌, ◌<◌, ◌≡◌, ◌⊎◌, true, false, List, eqb, leb, get_or}
use Rattle.paper.specs.Lists.{is_empty, least}
use Rattle.paper.specs.Format.{most_entries}
use Rattle.paper.specs.Partners.{greatest}
use Rattle.closest.specs.Runs.{begins, start_of}
use Rattle.shapes.specs.Shape.{type_of, parent_of, edge_of}
use Rattle.shapes.specs.declared.shape.Shape.{Shape}
use Rattle.partners.specs.Closest.{is_lone, alone_rows, children_in, parents_in, least_or, Bound}
use Rattle.partners.specs.Eight.{places, no_number}
use Rattle.partners.specs.declared.eight.Eight.{Eight}
use Rattle.partners.specs.declared.edges.Edges.{Edges}
use Rattle.partners.specs.declared.edges.Group.{Group}

-- ---- rows without a partner
-- no row of type b before row `from`, where a run of level l begins, is without a row of type a in its run
pub record Before (levels types : List ℕ) (rows l a b from : ℕ) : Type 0 where
  pub inside : from ≤ rows
  pub new_run : 0 < from → begins levels l from ≡ true
  pub none : (i : ℕ) → i < from → is_lone levels types rows l b a i ≡ false

module _ (levels types : List ℕ) (rows : ℕ) (s : Shape) where
  -- no row of entry c's type before row `from`, where a run begins, is without a partner
  abbrev pub MetBefore : ℕ → ℕ → Type 0
  MetBefore c from = Before levels types rows (edge_of s c) (type_of s (parent_of s c)) (type_of s c) from

  -- no row of the types of the entries before entry n is without a partner, and none of entry n's before row `from`
  pub record AllMet (n from : ℕ) : Type 0 where
    pub some : 1 ≤ n
    pub few : n ≤ s.entries
    pub each : (c : ℕ) → c < n → is_empty (alone_rows levels types rows s c) ≡ true
    pub before : n < s.entries → MetBefore n from

  -- a figure of each entry but the first; entry 0 and unused entries hold zeros
  pub record OfEdges (figure : ℕ → ℕ) (xs : List ℕ) : Type 0 where
    pub root : get_or xs 0 0 ≡ 0
    pub each : (c : ℕ) → 1 ≤ c → c < s.entries → get_or xs c 0 ≡ figure c
    pub unused : (c : ℕ) → s.entries ≤ c → c < most_entries → get_or xs c 0 ≡ 0

  -- Least and greatest numbers of closest rows both ways, for each edge, and where the first row without a partner is to be looked for.
  pub record Edged (edges : Edges) : Type 0 where
    pub least_children_lem : OfEdges (λ c. least (children_in levels types rows s c)) edges.least_children
    pub greatest_children_lem : OfEdges (λ c. greatest (children_in levels types rows s c)) edges.greatest_children
    pub least_parents_lem : OfEdges (λ c. least (parents_in levels types rows s c)) edges.least_parents
    pub greatest_parents_lem : OfEdges (λ c. greatest (parents_in levels types rows s c)) edges.greatest_parents
    pub all_met : AllMet edges.met edges.from
    pub alone : edges.met < s.entries → is_empty (alone_rows levels types rows s edges.met) ≡ false

-- ---- eight edges of the shape
-- each of the eight places from entry `first` on holds what is so of its entry
abbrev pub EachFrom : (first : ℕ) (Is : ℕ → ℕ → Type 0) → List ℕ → Type 0
EachFrom first Is xs = (e : ℕ) → e < places → Is (first + e) (get_or xs e 0)

-- entry c has no edge: it is the first entry, or past the last
abbrev pub NoEdge : Shape → ℕ → Type 0
NoEdge s c = (c ≡ 0) ⊎ (s.entries ≤ c)

-- The edge of entry c as it is walked: where its runs begin, the type of the parents and that of the children; no row's type without an edge.
pub record Walking (s : Shape) (c bound over own : ℕ) : Type 0 where
  pub begins-at : 1 ≤ c → c < s.entries → Bound (edge_of s c) bound
  pub over-is : 1 ≤ c → c < s.entries → over ≡ type_of s (parent_of s c)
  pub own_is : 1 ≤ c → c < s.entries → own ≡ type_of s c
  pub none : NoEdge s c → (over ≡ no_number) × (own ≡ no_number)

-- the edges of the eight entries from entry `first` on
abbrev pub Grouped : Shape → ℕ → Group → Type 0
Grouped s first g = (e : ℕ) → e < places → Walking s (first + e) (get_or g.bounds e 0) (get_or g.over e 0) (get_or g.own e 0)

-- x is the number of entry c's edge, and stands for none where it has no edge
pub record Figure (s : Shape) (c number none x : ℕ) : Type 0 where
  pub has : 1 ≤ c → c < s.entries → x ≡ number
  pub lacks : NoEdge s c → x ≡ none

module _ (levels types : List ℕ) (rows : ℕ) (s : Shape) where
  -- the first run that has a row of entry c's type without a partner ends before row x; no such row, no number
  pub record LoneEnd (c x : ℕ) : Type 0 where
    pub none : x ≡ no_number → is_empty (alone_rows levels types rows s c) ≡ true
    pub inside : x < no_number → (1 ≤ x) × (x ≤ rows)
    pub alone : x < no_number → is_empty (alone_rows levels types rows s c) ≡ false
    pub before : x < no_number → MetBefore levels types rows s c (start_of levels (edge_of s c) (x - 1))

  -- what is found of the edges of the eight entries from entry `first` on
  pub record Found (first : ℕ) (found : Eight) : Type 0 where
    pub least_children_lem : EachFrom first (λ c. Figure s c (least_or (children_in levels types rows s c)) no_number) found.least_children
    pub greatest_children_lem : EachFrom first (λ c. Figure s c (greatest (children_in levels types rows s c)) 0) found.greatest_children
    pub least_parents_lem : EachFrom first (λ c. Figure s c (least_or (parents_in levels types rows s c)) no_number) found.least_parents
    pub greatest_parents_lem : EachFrom first (λ c. Figure s c (greatest (parents_in levels types rows s c)) 0) found.greatest_parents
    pub lone_ends : EachFrom first (λ c x. 1 ≤ c → c < s.entries → LoneEnd c x) found.lone

-- ---- two groups
-- the place of entry c in the two groups
unfoldable pub of_entry : (low high : List ℕ) → ℕ → ℕ
of_entry low high c = elim (leb places c) [ true ↦ get_or high (c - places) 0 | false ↦ get_or low c 0 ]

-- the least of no numbers is told as 0
abbrev pub or_zero : ℕ → ℕ
or_zero x = elim (eqb x no_number) [ true ↦ 0 | false ↦ x ]

-- each entry's place of the two groups, 0 for no number
abbrev pub Spread : (low high : List ℕ) → List ℕ → Type 0
Spread low high xs = (c : ℕ) → c < most_entries → get_or xs c 0 ≡ or_zero (of_entry low high c)

-- n is the first entry from 1 on where a run without parents ends, the number of entries where there is none
pub record FirstAlone (low high : List ℕ) (entries n : ℕ) : Type 0 where
  pub some : 1 ≤ n
  pub few : n ≤ entries
  pub passed : (c : ℕ) → c < n → 1 ≤ c → of_entry low high c ≡ no_number
  pub here : n < entries → of_entry low high n < no_number

-- entry c's place is the end of a run of its edge, among so many rows, and row r is the first of that run
abbrev pub EndWithin : (rows : ℕ) → Shape → (low high : List ℕ) → ℕ → Type 0
EndWithin rows s low high c = c < s.entries → (1 ≤ of_entry low high c) × (of_entry low high c ≤ rows)

abbrev pub RunStart : (levels : List ℕ) → Shape → (low high : List ℕ) → ℕ → ℕ → Type 0
RunStart levels s low high c r = c < s.entries → r ≡ start_of levels (edge_of s c) (of_entry low high c - 1)
