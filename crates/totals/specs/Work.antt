-- What is known of a tape once its lines are written: what inner contracts name. Assumes nothing.
use Rattle.std.specs.Prelude.{ℕ, ◌<◌, ◌≡◌, List, map, pos, length}
use Rattle.paper.specs.Lists.{Has}
use Rattle.paper.specs.Format.{Format, most_lines, row_bytes, entry_bytes}
use Rattle.paper.specs.Closeness.{Node}
use Rattle.paper.specs.Shapes.{entries}
use Rattle.paper.specs.NewTable.{Line}
use Rattle.paper.specs.Figures.{entry_lines, appears}
use Rattle.paper.specs.Calls.{Reply, given, Work, tests1_7, test8}
use Rattle.totals.specs.Tape.{Sums, type_rows}
use Rattle.totals.specs.Rows.{value_at, is_marked, added_up}

-- the table and the shape pass 1 to 8, with room for all lines, and the shape has the entry
pub record HasEntry (f : Format) (b sb : List ℕ) (e : ℕ) : Type 0 where
  pub work : Work
  pub shown : List Line
  pub passes1_7 : tests1_7 f b sb ≡ given work
  pub passes8 : test8 f work most_lines ≡ given shown
  pub inside : e < length (entries f sb)

-- a row of the entry's type is marked exactly if it appears in the entry's lines
abbrev pub MarksShown : Format → List ℕ → List ℕ → ℕ → List ℕ → Type 0
MarksShown f b sb e marks =
    (w : Work) (ls : List Line) → tests1_7 f b sb ≡ given w → test8 f w most_lines ≡ given ls
    → (r : Node) → Has r (type_rows w e) → is_marked marks r.place ≡ appears (entry_lines ls e) r

-- what the rows of the entry's type add up to, those marked and the others
abbrev pub SumsRows : Format → List ℕ → List ℕ → ℕ → List ℕ → Reply Sums → Type 0
SumsRows f b sb e marks r =
    (w : Work) → tests1_7 f b sb ≡ given w
    → r ≡ added_up (value_at (row_bytes f) (entry_bytes f) b) (is_marked marks) (map (λ (x : Node). x.place) (type_rows w e)) (pos 0) (pos 0)
