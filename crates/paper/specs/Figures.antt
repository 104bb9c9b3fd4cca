-- The figures of a summary: what the lines of each entry show. Assumes nothing.
use Rattle.std.specs.Prelude.{ℕ, ◌-◌, Bool, List, map, eqb, length, replicate}
use Rattle.paper.specs.Lists.{keep, any, padded}
use Rattle.paper.specs.Format.{most_entries}
use Rattle.paper.specs.Closeness.{Node, of_kind}
use Rattle.paper.specs.Shapes.{Shape, kind, numbers}
use Rattle.paper.specs.NewTable.{Line}

-- The lines of an entry.
unfoldable pub entry_lines : List Line → ℕ → List Line
entry_lines ls e = keep (λ (l : Line). eqb l.entry e) ls

-- The source row appears in these lines: it is the source row of one of them.
unfoldable pub appears : List Line → Node → Bool
appears ls r = any (λ (l : Line). eqb l.source.place r.place) ls

-- The different source rows that appear in these lines: each row of the table counts once, however many lines show it.
unfoldable pub different_rows : List Node → List Line → List Node
different_rows t ls = keep (appears ls) t

-- A summary holds, for each of 16 entries: lines, source rows of its type, copies, and different source rows. Unused entries hold
-- zeros.
pub record Figures : Type 0 where
  pub lines : List ℕ
  pub rows : List ℕ
  pub copies : List ℕ  -- lines less the number of different source rows that appear in that entry's lines
  pub different : List ℕ  -- that number

-- The figures of each entry of the shape, from the rows of the table and the lines of the new table.
unfoldable pub figures : List Node → Shape → List Line → Figures
figures t s ls =
    let es = numbers s in
    let shown : ℕ → ℕ = λ e. length (entry_lines ls e) in
    let held : ℕ → ℕ = λ e. length (of_kind t (kind s e)) in
    let different : ℕ → ℕ = λ e. length (different_rows t (entry_lines ls e)) in
    record {
      lines = padded most_entries (map shown es);
      rows = padded most_entries (map held es);
      copies = padded most_entries (map (λ e. shown e - different e) es);
      different = padded most_entries (map different es);
    }

-- A refused summary holds zeros.
abbrev pub no_figures : Figures
no_figures = let zeros : List ℕ = replicate most_entries 0 in record { lines = zeros; rows = zeros; copies = zeros; different = zeros }
