-- A table and a shape that pass tests 1 to 7, as judging, reshaping and summarising work on them. Assumes nothing.
use Rattle.std.specs.Prelude.{ℕ, ◌*◌, ◌≤◌, ◌<◌, ◌≡◌, List, length, get_or, Result, Ok, Err}
use Rattle.paper.specs.Format.{Format, most_entries}
use Rattle.paper.specs.Tables.{rows}
use Rattle.paper.specs.Closeness.{nodes, kinds_meet}
use Rattle.paper.specs.Shapes as Paper
use Rattle.paper.specs.Calls.{refused, given, tests1_7}
use Rattle.paper.specs.Refusals.{refusal_number, refusal_place}
use Rattle.paper.specs.declared.refusal.Refusal.{Refusal}
use Rattle.octets.specs.Served.{Served}
use Rattle.closest.specs.Deepest.{no_meetings}
use Rattle.closest.specs.Runs.{Levelled, Rows}
use Rattle.closest.specs.Rows.{RowsIn}
use Rattle.closest.specs.declared.rows.RowsRead.{RowsRead}
use Rattle.shapes.specs.Ways.{way_places, way_at}
use Rattle.shapes.specs.Tests.{shape_in}
use Rattle.shapes.specs.Edges.{meeting_of}
use Rattle.shapes.specs.Shape.{level_of, label_of, type_of, parent_of, Shaped}
use Rattle.shapes.specs.declared.shape.Shape.{Shape}
use Rattle.shapes.specs.declared.work.Preparation.{Preparation}

-- the number of rows with the level and the type number of each, where the types meet, the shape, and the ways of its entries
pub record Work : Type 0 where
  pub rows : ℕ
  pub levels : List ℕ
  pub types : List ℕ
  pub meetings : List ℕ
  pub shape : Shape
  pub ways : List ℕ

-- the entries of the paper's shape: their number, and of each its level, last label, type number, parent and way
pub record Holds (s : Paper.Shape) (w : Work) : Type 0 where
  pub counted : w.shape.entries ≡ length s.ways
  pub level-is : (e : ℕ) → e < w.shape.entries → level_of w.shape e ≡ get_or s.levels e 0
  pub label_is : (e : ℕ) → e < w.shape.entries → label_of w.shape e ≡ get_or s.labels e 0
  pub type_is : (e : ℕ) → e < w.shape.entries → type_of w.shape e ≡ Paper.kind s e
  pub parent_is : (e : ℕ) → e < w.shape.entries → parent_of w.shape e ≡ Paper.parent s e
  pub way_is : (e : ℕ) → e < w.shape.entries → way_at w.ways e (level_of w.shape e) ≡ Paper.way s e

-- what tests 1 to 7 give where none refuses
pub record Ready (f : Format) (t s : List ℕ) (w : Work) : Type 0 where
  pub served : Served f
  pub given_is : tests1_7 f t s ≡ given (record { rows = rows f t; nodes = nodes (rows f t); shape = shape_in f t s })
  pub levelled : Levelled f w.rows t w.levels w.types
  pub rows_are : Rows w.rows w.levels w.types
  pub shaped : Shaped (nodes (rows f t)) w.shape
  pub shallow : (e : ℕ) → e < w.shape.entries → level_of w.shape e ≤ f.levels
  pub meets : (d e : ℕ) → d < w.shape.entries → e < w.shape.entries
      → meeting_of w.meetings w.shape.types d e ≡ kinds_meet (nodes (rows f t)) (type_of w.shape d) (type_of w.shape e)
  pub holds : Holds (shape_in f t s) w

-- the lists that are lent to prepare it: no meetings yet, and places for all ways
pub record Blank (meetings ways : List ℕ) : Type 0 where
  pub none_met : meetings ≡ no_meetings
  pub ways_long : length ways ≡ way_places * most_entries

-- the work that is given back as r and found in the lent lists
abbrev pub work_of : Preparation → List ℕ → List ℕ → List ℕ → List ℕ → Work
work_of r levels types meetings ways = record {
  rows = r.rows;
  levels = levels;
  types = types;
  meetings = meetings;
  shape = r.shape;
  ways = ways;
}

-- what tests 1 to 7 say of a table t and a shape s: a refusal, or the work, with these lists
abbrev pub Prepared : Format → List ℕ → List ℕ → Result Preparation Refusal → List ℕ → List ℕ → List ℕ → List ℕ → Type 0
Prepared f t s (Ok p) levels types meetings ways = Ready f t s (work_of p levels types meetings ways)
Prepared f t s (Err e) levels types meetings ways = tests1_7 f t s ≡ refused (refusal_number e) (refusal_place e)

-- whatever table the rows are of, preparing gives r back, and leaves these meetings and ways
abbrev pub Prepares : Format → List ℕ → RowsRead → Result Preparation Refusal → List ℕ → List ℕ → List ℕ → List ℕ → Type 0
Prepares f s read r levels types meetings ways =
    (t : List ℕ) → RowsIn f t read levels types → Prepared f t s r levels types meetings ways
