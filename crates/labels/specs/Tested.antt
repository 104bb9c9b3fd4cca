-- What is known of the two files before they are converted. Assumes nothing.
use Rattle.std.specs.Prelude.{ℕ, ◌≡◌, List}
use Rattle.paper.specs.Format.{Format, row_bytes, entry_bytes, whole}
use Rattle.paper.specs.Tables as Tables
use Rattle.paper.specs.Shapes as Shapes
use Rattle.paper.specs.Calls.{given, tests1_3, tests5_6}
use Rattle.paper.specs.Labels.{old_range}
use Rattle.octets.specs.Served.{Served}

-- The counts are those of the whole rows and entries.
pub record Counted (f : Format) (b s : List ℕ) (rows entries : ℕ) : Type 0 where
  pub served : Served f
  pub rows-counted : rows ≡ whole (row_bytes f) b
  pub entries-counted : entries ≡ whole (entry_bytes f) s

-- Both files pass their tests on the old range.
pub record Tested (f : Format) (b s : List ℕ) (rows entries : ℕ) : Type 0 where
  pub counted : Counted f b s rows entries
  pub table_passes : tests1_3 (old_range f) b ≡ given (Tables.rows (old_range f) b)
  pub shape_passes : tests5_6 (old_range f) s ≡ given (Shapes.entries (old_range f) s)
