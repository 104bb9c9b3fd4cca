-- The summary of rows that were read: what an inner contract names. Assumes nothing.
use Rattle.std.specs.Prelude.{ℕ, ◌≡◌, List, Result}
use Rattle.paper.specs.Format.{Format}
use Rattle.paper.specs.Calls.{summarise}
use Rattle.paper.specs.declared.refusal.Refusal.{Refusal}
use Rattle.closest.specs.Rows.{RowsIn}
use Rattle.closest.specs.declared.rows.RowsRead.{RowsRead}
use Rattle.reshaping.specs.declared.summarise.Summary.{Summary}
use Rattle.reshaping.specs.Reshaped.{summarised}

-- whatever table the rows are of, r is the summary of its reshape
abbrev pub SummarisesRows : Format → List ℕ → RowsRead → List ℕ → List ℕ → Result Summary Refusal → Type 0
SummarisesRows f s read levels types r = (t : List ℕ) → RowsIn f t read levels types → summarised r ≡ summarise f t s
