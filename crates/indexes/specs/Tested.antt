-- Lists that are lent with a table, as they are tested. Assumes nothing.
use Rattle.std.specs.Prelude.{ℕ, ◌≤◌, ◌≡◌, List, length, Result, Ok, Err, OnOk, IfOk}
use Rattle.paper.specs.Format.{Format}
use Rattle.paper.specs.Tables as Tables
use Rattle.paper.specs.Tables.{Row}
use Rattle.paper.specs.Calls.{Answer, refused, given, tests1_4}
use Rattle.paper.specs.Index.{tests_index}
use Rattle.paper.specs.Refusals.{refusal_number, refusal_place}
use Rattle.paper.specs.declared.refusal.Refusal.{Refusal}
use Rattle.closest.specs.Runs.{Levelled, NextRows}
use Rattle.closest.specs.Rows.{Reads}
use Rattle.closest.specs.declared.rows.RowsRead.{RowsRead}

-- what tests of these rows say: the refusal r, or the rows
abbrev pub Says : Answer (List Row) → List Row → Result (Unit {0}) Refusal → Type 0
Says tests rs (Ok x) = tests ≡ given rs
Says tests rs (Err e) = tests ≡ refused (refusal_number e) (refusal_place e)

-- the list of next rows is one for these rows
pub record NextIn (rows : ℕ) (types next : List ℕ) : Type 0 where
  pub long : rows ≤ length next
  pub nexts : NextRows rows types next

-- of whatever table these are the rows: r is what 14 and 15 say of the lists, and where neither refuses, `next` has the next rows
pub record Holds (rows : ℕ) (levels types last next : List ℕ) (r : Result (Unit {0}) Refusal) : Type 0 where
  pub says : (f : Format) (t : List ℕ) → Levelled f rows t levels types → tests1_4 f t ≡ given (Tables.rows f t)
      → Says (tests_index f t last next) (Tables.rows f t) r
  pub next_in : OnOk r (NextIn rows types next)

-- what tests 1 to 4, 14 and 15 say of a table t and the lists, and where none refuses, the rows of t
pub record ReadsIndexed (f : Format) (t last next : List ℕ) (r : Result RowsRead Refusal) (levels types : List ℕ) : Type 0 where
  pub reads : Reads (tests_index f t last next) f t r levels types
  pub next_in : IfOk r (λ x. NextIn x.rows types next)
