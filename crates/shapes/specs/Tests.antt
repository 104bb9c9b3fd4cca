-- A shape that passes tests 5 to 7 over a table, as it was read. Assumes nothing.
use Rattle.std.specs.Prelude.{ℕ, ◌≤◌, ◌<◌, ◌≡◌, List, length, get_or, Result, Ok, Err}
use Rattle.paper.specs.Format.{Format, most_entries}
use Rattle.paper.specs.Tables.{rows, types}
use Rattle.paper.specs.Closeness.{nodes}
use Rattle.paper.specs.Shapes.{Shape, entries, shape_over, kind, parent, way}
use Rattle.paper.specs.Calls.{◌>>=◌, Reply, refused, given, reply, tests1_4, tests5_6, tests1_7}
use Rattle.paper.specs.Refusals.{refusal_number, refusal_place, reply_of}
use Rattle.paper.specs.declared.refusal.Refusal.{Refusal}
use Rattle.types.specs.Types.{Told}
use Rattle.shapes.specs.Ways.{way_at}
use Rattle.shapes.specs.declared.tests.Tested.{Tested}

-- number and place of 5 and 6, or the number of entries
unfoldable pub shape_reply : Format → List ℕ → Reply ℕ
shape_reply f s = reply 0 do
  es ← tests5_6 f s
  given (length es)

abbrev pub shape_examined : Result ℕ Refusal → Reply ℕ
shape_examined r = reply_of 0 (λ entries. entries) r

-- the shape of the bytes s over the types of the table t
abbrev pub shape_in : Format → List ℕ → List ℕ → Shape
shape_in f t s = shape_over (types (rows f t)) (entries f s)

-- the entries of a shape as they were read: number, level, last label, parent, type number, way
pub record Read (s : Shape) (w : Tested) (ways : List ℕ) : Type 0 where
  pub counted : w.entries ≡ length s.ways
  pub few : w.entries ≤ most_entries
  pub level : (e : ℕ) → e < w.entries → get_or w.levels e 0 ≡ get_or s.levels e 0
  pub label : (e : ℕ) → e < w.entries → get_or w.labels e 0 ≡ get_or s.labels e 0
  pub parent_is : (e : ℕ) → e < w.entries → get_or w.parents e 0 ≡ parent s e
  pub type_is : (e : ℕ) → e < w.entries → get_or w.types e 0 ≡ kind s e
  pub way_is : (e : ℕ) → e < w.entries → way_at ways e (get_or w.levels e 0) ≡ way s e

-- tests 1 to 7 pass a table t and a shape s, and these are the entries
pub record Passed (f : Format) (t s : List ℕ) (w : Tested) (ways : List ℕ) : Type 0 where
  pub given_is : tests1_7 f t s ≡ given (record { rows = rows f t; nodes = nodes (rows f t); shape = shape_in f t s })
  pub known : (e : ℕ) → e < w.entries → get_or w.types e 0 < length (types (rows f t))
  pub reads : Read (shape_in f t s) w ways

-- what tests 1 to 7 say of a table t and a shape s: a refusal, or where none refuses, the entries
abbrev pub Passes : Format → List ℕ → List ℕ → Result Tested Refusal → List ℕ → Type 0
Passes f t s (Ok w) ways = Passed f t s w ways
Passes f t s (Err e) ways = tests1_7 f t s ≡ refused (refusal_number e) (refusal_place e)

-- this is so of whatever table passes the first four tests and has these types
abbrev pub PassesEach : Format → List ℕ → List ℕ → ℕ → List ℕ → Result Tested Refusal → List ℕ → Type 0
PassesEach f parents labels count s r ways =
    (t : List ℕ) → tests1_4 f t ≡ given (rows f t) → Told (types (rows f t)) parents labels count → Passes f t s r ways
