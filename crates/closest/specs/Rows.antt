-- The rows of a table as they are read once, for calls that walk them. Assumes nothing.
use Rattle.std.specs.Prelude.{ℕ, ◌≡◌, List, Result, Ok, Err}
use Rattle.paper.specs.Format.{Format}
use Rattle.paper.specs.Tables as Tables
use Rattle.paper.specs.Tables.{Row}
use Rattle.paper.specs.Calls.{Answer, refused, given, tests1_4}
use Rattle.paper.specs.Refusals.{refusal_number, refusal_place}
use Rattle.paper.specs.declared.refusal.Refusal.{Refusal}
use Rattle.types.specs.Types.{Told}
use Rattle.closest.specs.Runs.{LevelsOf, Levelled, Rows}
use Rattle.closest.specs.declared.rows.RowsRead.{RowsRead}

-- the table t passes tests 1 to 4, r has the number of its rows and lists its types, and these are its rows' levels and type numbers
pub record RowsIn (f : Format) (t : List ℕ) (r : RowsRead) (levels types : List ℕ) : Type 0 where
  pub given_is : tests1_4 f t ≡ given (Tables.rows f t)
  pub levelled : Levelled f r.rows t levels types
  pub levels_are : LevelsOf f r.rows t levels
  pub rows_are : Rows r.rows levels types
  pub told : Told (Tables.types (Tables.rows f t)) r.parents r.labels r.count

-- they are the rows of some table
abbrev pub SomeRows : Format → RowsRead → List ℕ → List ℕ → Type 0
SomeRows f r levels types = (t : List ℕ) × RowsIn f t r levels types

-- what the tests before 5 say of a table t, 1 to 4 or these and further ones: the refusal r, or where none refuses, the rows r of t
abbrev pub Reads : Answer (List Row) → Format → List ℕ → Result RowsRead Refusal → List ℕ → List ℕ → Type 0
Reads tests f t (Ok r) levels types = (tests ≡ given (Tables.rows f t)) × RowsIn f t r levels types
Reads tests f t (Err e) levels types = tests ≡ refused (refusal_number e) (refusal_place e)

-- what 1 to 4 say of it, and its rows
abbrev pub ReadRows : Format → List ℕ → Result RowsRead Refusal → List ℕ → List ℕ → Type 0
ReadRows f t r levels types = Reads (tests1_4 f t) f t r levels types
