-- What was read of a shape's entries. Assumes nothing.
use Rattle.std.specs.Prelude.{ℕ, ◌+◌, ◌*◌, ◌-◌, ◌<◌, ◌≡◌, List, get_or, take, drop}
use Rattle.paper.specs.Shapes.{Shape, way, parent}
use Rattle.shapes.specs.declared.ways.Fields.{Fields}

-- the places that the way of one entry has
abbrev pub way_places : ℕ
way_places = 8

-- the way of entry e, of this length, as it stands at its places
abbrev pub way_at : List ℕ → ℕ → ℕ → List ℕ
way_at ws e l = take l (drop (way_places * e) ws)

-- the way of entry e at level l is put behind the ways before it: the way of the entry before it, cut above its level, and itself
pub record Put (before : List ℕ) (e l : ℕ) (after : List ℕ) : Type 0 where
  pub kept : (i : ℕ) → i < way_places * e → get_or after i 0 ≡ get_or before i 0
  pub above : (k : ℕ) → k + 1 < l → get_or after (way_places * e + k) 0 ≡ get_or before (way_places * (e - 1) + k) 0
  pub own : get_or after (way_places * e + (l - 1)) 0 ≡ e

-- each of so many entries of a shape as it was read: level, last label, parent, way
pub record Laid (s : Shape) (entries : ℕ) (r : Fields) (ways : List ℕ) : Type 0 where
  pub level : (e : ℕ) → e < entries → get_or r.levels e 0 ≡ get_or s.levels e 0
  pub label : (e : ℕ) → e < entries → get_or r.labels e 0 ≡ get_or s.labels e 0
  pub parent_is : (e : ℕ) → e < entries → get_or r.parents e 0 ≡ parent s e
  pub way_is : (e : ℕ) → e < entries → way_at ways e (get_or s.levels e 0) ≡ way s e
