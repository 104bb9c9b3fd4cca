-- Document 02, request 9: the two widths of files, and a file of one width as one of the other. Everything but the widths themselves is over
-- any two formats. Assumes nothing.
use Rattle.std.specs.Prelude.{ℕ, ◌+◌, Bool, ◌||◌, List, ◌++◌, ltb, length, take, drop, replicate}
use Rattle.paper.specs.Lists.{join_map, first_place, padded}
use Rattle.paper.specs.Format.{Format, format, base, eight, row_bytes, entry_bytes, records, whole}
use Rattle.paper.specs.Tables.{Row}
use Rattle.paper.specs.Shapes.{Entry}
use Rattle.paper.specs.Calls.{Answer, given, ◌>>=◌, refuse, refuse_at, Reply, reply, after, tests1_3, tests5_6}
use Rattle.paper.specs.declared.Width.{Width}
use Rattle.paper.specs.declared.Width.TheVariants.{Six, Eight}

-- The caller says which width a file has.
abbrev pub format_of : Width → Format
format_of Six = base
format_of Eight = eight

-- the format with n levels more
abbrev pub deeper : Format → ℕ → Format
deeper f n = format (f.levels + n) f.labels

-- ---- a file of format f as one of format g
-- A record is widened by zero components, or labels, behind those that it has; narrowed, it loses the last ones. What stands before them and
-- behind them stays.
unfoldable pub record_to : Format → Format → List ℕ → List ℕ
record_to f g r = padded (entry_bytes g) (take (entry_bytes f) r) ++ drop (entry_bytes f) r

-- records of w bytes, one after the other
unfoldable pub records_to : Format → Format → ℕ → List ℕ → List ℕ
records_to f g w b = join_map (record_to f g) (records w (whole w b) b)

abbrev pub table_to : Format → Format → List ℕ → List ℕ
table_to f g b = records_to f g (row_bytes f) b

abbrev pub shape_to : Format → Format → List ℕ → List ℕ
shape_to f g s = records_to f g (entry_bytes f) s

-- ---- rows and entries with n levels more
-- a row with n zero components behind those that it has
abbrev pub row_to : ℕ → Row → Row
row_to n r = record { level = r.level; spare = r.spare; label = r.label; components = r.components ++ replicate n 0; value = r.value }

-- an entry with n zero labels behind those that it has
abbrev pub entry_to : ℕ → Entry → Entry
entry_to n e = record { level = e.level; size = e.size; spare = e.spare; labels = e.labels ++ replicate n 0 }

-- ---- the calls
-- a row that is too deep for a format
abbrev pub row_deep : Format → Row → Bool
row_deep g r = ltb g.levels r.level

-- an entry that is: its level or the length of its type
abbrev pub entry_deep : Format → Entry → Bool
entry_deep g e = ltb g.levels e.level || ltb g.levels e.size

-- After the tests of a file, 24 with the first row or entry too deep, then 29 where fewer bytes are lent than are written; else the count of
-- rows or entries, and what is written. Where no level is taken away, none is too deep.
unfoldable pub moving : {A : Type 0} → Answer (List A) → (A → Bool) → List ℕ → ℕ → Answer (ℕ × List ℕ)
moving tests deep new room = do
  xs ← tests
  _ ← refuse_at 24 (first_place deep xs)
  _ ← refuse 29 (ltb room (length new))
  given (length xs, new)

-- Widening and narrowing add the count of rows or entries.
pub record Moved : Type 0 where
  pub reply : Reply ℕ
  pub bytes : List ℕ  -- the lent bytes afterwards

abbrev pub moved : List ℕ → Answer (ℕ × List ℕ) → Moved
moved before a = record {
  reply = reply 0 (do x ← a; given x.0);
  bytes = after before (do x ← a; given x.1);
}

-- a table of format f to format g, into lent bytes
unfoldable pub move_table : Format → Format → List ℕ → List ℕ → Moved
move_table f g b lent = moved lent (moving (tests1_3 f b) (row_deep g) (table_to f g b) (length lent))

-- a shape
unfoldable pub move_shape : Format → Format → List ℕ → List ℕ → Moved
move_shape f g s lent = moved lent (moving (tests5_6 f s) (entry_deep g) (shape_to f g s) (length lent))
