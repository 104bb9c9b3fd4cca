-- A shape as the walks use it. Assumes nothing.
use Rattle.std.specs.Prelude.{ℕ, suc, ◌≤◌, ◌<◌, ◌≡◌, List, get_or}
use Rattle.paper.specs.Format.{most_entries, most_types}
use Rattle.paper.specs.Closeness.{Node, kinds_meet}
use Rattle.octets.specs.Served.{most_levels}
use Rattle.shapes.specs.Edges.{EdgeLevels, Ends}
use Rattle.shapes.specs.declared.shape.Shape.{Shape}

module _ (s : Shape) where
  abbrev pub level_of : ℕ → ℕ
  level_of e = get_or s.levels e 0

  abbrev pub label_of : ℕ → ℕ
  label_of e = get_or s.labels e 0

  abbrev pub type_of : ℕ → ℕ
  type_of e = get_or s.types e 0

  abbrev pub parent_of : ℕ → ℕ
  parent_of e = get_or s.parents e 0

  -- the level of the edge of entry c
  abbrev pub edge_of : ℕ → ℕ
  edge_of c = get_or s.edges c 0

  -- one past the last child entry
  abbrev pub end_of : ℕ → ℕ
  end_of e = get_or s.ends e 0

-- the numbers of a shape's entries are in their ranges: an entry stands after its parent, one level below it
pub record Sized (s : Shape) : Type 0 where
  pub some : 1 ≤ s.entries
  pub few : s.entries ≤ most_entries
  pub typed : (e : ℕ) → e < s.entries → type_of s e < most_types
  pub root : parent_of s 0 ≡ 0
  pub under : (c : ℕ) → 0 < c → c < s.entries → parent_of s c < c
  pub top : level_of s 0 ≡ 1
  pub down : (c : ℕ) → 0 < c → c < s.entries → level_of s c ≡ suc (level_of s (parent_of s c))
  pub deep : (c : ℕ) → c < s.entries → edge_of s c ≤ most_levels
  pub before : (e : ℕ) → e < s.entries → end_of s e ≤ s.entries
  pub last : (c : ℕ) → 0 < c → c < s.entries → c < end_of s (parent_of s c)

-- Each edge has the meeting level of its two types.
pub record Shaped (t : List Node) (s : Shape) : Type 0 where
  pub sized : Sized s
  pub meets : (c : ℕ) → c < s.entries → edge_of s c ≡ kinds_meet t (type_of s (parent_of s c)) (type_of s c)

-- the shape of these entries, with the levels of its edges and the ends of its entries' children
pub record Drawn (entries : ℕ) (levels labels types parents meetings : List ℕ) (s : Shape) : Type 0 where
  pub entries_are : s.entries ≡ entries
  pub levels_are : s.levels ≡ levels
  pub labels_are : s.labels ≡ labels
  pub types_are : s.types ≡ types
  pub parents_are : s.parents ≡ parents
  pub edges_are : EdgeLevels meetings types parents entries s.edges
  pub ends_are : Ends parents entries s.ends
