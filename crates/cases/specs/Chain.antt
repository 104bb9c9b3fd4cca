-- The first lines of a new table as the source of a second reshape. Assumes nothing.
use Rattle.std.specs.Prelude.{ℕ, ◌*◌, ◌≤◌, ◌≡◌, List, length, take}
use Rattle.paper.specs.Format.{Format, row_bytes}
use Rattle.paper.specs.Tables.{rows}
use Rattle.paper.specs.Calls.{given, tests1_4}

-- they lie within what the first reshape was lent, and refusals 1 to 4 pass
abbrev pub Source : Format → List ℕ → ℕ → Type 0
Source f new lines = (row_bytes f * lines ≤ length new) × (tests1_4 f (take (row_bytes f * lines) new) ≡ given (rows f (take (row_bytes f * lines) new)))
