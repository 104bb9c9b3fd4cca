-- What the figures of a summary say of one entry, whatever table and shape are summarised. Assumes nothing.
use Rattle.std.specs.Prelude.{ℕ, ◌+◌, ◌≤◌, ◌≡◌, get_or}
use Rattle.paper.specs.Figures.{Figures}

-- The figures of entry e agree.
pub record FiguresAgree (x : Figures) (e : ℕ) : Type 0 where
  -- its different source rows are no more than its lines
  pub few_lines : get_or x.different e 0 ≤ get_or x.lines e 0
  -- nor than the source rows of its type
  pub few_rows : get_or x.different e 0 ≤ get_or x.rows e 0
  -- each line is a copy, or shows a row for the first time
  pub copies_are : get_or x.copies e 0 + get_or x.different e 0 ≡ get_or x.lines e 0
