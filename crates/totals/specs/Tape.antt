-- What one tape adds: the values of an entry's source rows, those shown and those not shown, over the source table. Assumes nothing.
use Rattle.std.specs.Prelude.{ℕ, ◌^◌, not, List, [], ◌∷◌, map, leb, ℤ, pos, length, get_or}
use Rattle.std.proofs.Math.Option.{Option, none, some}
use Rattle.paper.specs.Lists.{keep}
use Rattle.paper.specs.Format.{Format, most_lines, signed}
use Rattle.paper.specs.Tables.{Row, rows, types, type_number}
use Rattle.paper.specs.Closeness.{Node, nodes, of_kind}
use Rattle.paper.specs.Shapes.{entries, named, kind}
use Rattle.paper.specs.NewTable.{Line}
use Rattle.paper.specs.Figures.{entry_lines, appears, different_rows}
use Rattle.paper.specs.Calls.{Answer, given, ◌>>=◌, refuse, refuse_at, Reply, reply, Work, tests1_7, test8}
use Rattle.totals.specs.Sums.{sum_of, within}

-- A tape as it is handed in, with the entry whose values are added.
pub record Tape : Type 0 where
  pub format : Format
  pub table : List ℕ
  pub shape : List ℕ
  pub entry : ℕ

-- A value of that type must lie from −10^12 to 10^12, both allowed.
abbrev pub most_value : ℕ
most_value = 10 ^ 12

-- the value of a row of the table
unfoldable pub value_of : List Row → Node → ℤ
value_of rs r = signed (get_or (map (λ (x : Row). x.value) rs) r.place [])

module _ (w : Work) (e : ℕ) where
  -- the rows of the entry's type, in table order
  unfoldable pub type_rows : List Node
  type_rows = of_kind w.nodes (kind w.shape e)

  -- those whose value is out of range
  unfoldable pub out_of_range : List Node
  out_of_range = keep (λ r. not (within most_value (value_of w.rows r))) type_rows

  module _ (ls : List Line) where
    -- The entry's shown source rows: the rows that appear in its lines, each once however many lines show it.
    unfoldable pub shown_rows : List Node
    shown_rows = different_rows w.nodes (entry_lines ls e)

    -- the rows of its type that are not shown
    unfoldable pub unshown_rows : List Node
    unshown_rows = keep (λ r. not (appears (entry_lines ls e) r)) type_rows

-- the place of the first of these rows
abbrev pub first_of : List Node → Option ℕ
first_of [] = none
first_of (r ∷ rs) = some r.place

-- both sums
pub record Sums : Type 0 where
  pub shown : ℤ
  pub unshown : ℤ

abbrev pub no_sums : Sums
no_sums = record { shown = pos 0; unshown = pos 0 }

-- As for a summary, 1 to 8; then 16, no such entry; 17, a value out of range, with its row; or both sums.
unfoldable pub sums_of : Tape → Answer Sums
sums_of t = do
  w ← tests1_7 t.format t.table t.shape
  ls ← test8 t.format w most_lines
  _ ← refuse 16 (leb (length w.shape.ways) t.entry)
  _ ← refuse_at 17 (first_of (out_of_range w t.entry))
  given (record {
    shown = sum_of (value_of w.rows) (shown_rows w t.entry ls);
    unshown = sum_of (value_of w.rows) (unshown_rows w t.entry ls);
  })

unfoldable pub sum_tape : Tape → Reply Sums
sum_tape t = reply no_sums (sums_of t)

-- the sum over all rows of the type that the entry names, shown or not
unfoldable pub sum_of_type : Tape → ℤ
sum_of_type t =
    let rs = rows t.format t.table in
    let kinds = map (λ x. type_number (types rs) (named x)) (entries t.format t.shape) in
    sum_of (value_of rs) (of_kind (nodes rs) (get_or kinds t.entry 0))
