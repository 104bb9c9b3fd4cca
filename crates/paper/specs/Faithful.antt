-- New tables that show what a shape asks for, whoever wrote them. Assumes nothing.
use Rattle.std.specs.Prelude.{ℕ, ◌<◌, ◌≡◌, true, List, [], ◌∷◌, map, length}
use Rattle.paper.specs.Lists.{Has, up}
use Rattle.paper.specs.Tables.{follows}
use Rattle.paper.specs.Closeness.{Node, of_kind, closest, closest_of}
use Rattle.paper.specs.Shapes.{Shape, kind, way, children}

-- each Dewey number follows the one before; p is the number before the first
abbrev pub Chain : List ℕ → List (List ℕ) → Type 0
Chain p [] = Unit
Chain p (d ∷ ds) = ((0 < length d) × (follows p d ≡ true)) × Chain d ds

-- The lines of a new table, with the source row of each, are faithful to a source table t and a shape s. Lines beneath one
-- parent, and root lines, may come in any order, entries mixed.
pub record Faithful (t : List Node) (s : Shape) (new : List Node) (source : Node → ℕ) : Type 0 where
  -- the new table is a sound forest
  pub forest : Chain [] (map (λ (x : Node). x.dewey) new)
  -- each line has an entry of the shape, the entry's level, and a source row of the entry's type
  pub fits : (x : Node) → Has x new
      → (x.kind < length s.ways) × (length x.dewey ≡ length (way s x.kind))
      × (r : Node) × Has r t × (r.kind ≡ kind s x.kind) × (r.place ≡ source x)
  -- each row of entry 0's type has a root line
  pub roots : (r : Node) → Has r (of_kind t (kind s 0)) → (x : Node) × Has x new × (x.kind ≡ 0) × (source x ≡ r.place)
  -- directly beneath a line stand lines of its child entries with source rows closest to its own
  pub only : (x y : Node) → Has x new → Has y new → up y.dewey ≡ x.dewey
      → Has y.kind (children s x.kind)
      × ((r q : Node) → Has r t → Has q t → r.place ≡ source x → q.place ≡ source y → closest t r q ≡ true)
  -- and one for each child entry and closest source row
  pub every : (x : Node) → Has x new → (r : Node) → Has r t → r.place ≡ source x
      → (c : ℕ) → Has c (children s x.kind) → (q : Node) → Has q (closest_of t r (kind s c))
      → (y : Node) × Has y new × (up y.dewey ≡ x.dewey) × (y.kind ≡ c) × (source y ≡ q.place)
