-- Document 02, request 10: free labels end. A list of pairs, old label then new, brings a stored table and its shape from the old range of
-- labels to that of a format. Assumes nothing.
use Rattle.std.specs.Prelude.{ℕ, suc, ◌+◌, ◌*◌, Bool, true, false, not, ◌&&◌, ◌||◌, List, [], ◌∷◌, ◌++◌, map, eqb, ltb, length, take, drop}
use Rattle.std.proofs.Math.Option.{Option, none, some}
use Rattle.paper.specs.Lists.{any, join_map, first_place, between}
use Rattle.paper.specs.Format.{Format, format, head_bytes, row_bytes, entry_bytes, words, records, whole, bytes}
use Rattle.paper.specs.Tables.{Row}
use Rattle.paper.specs.Shapes.{Entry, named}
use Rattle.paper.specs.Calls.{Answer, given, ◌>>=◌, refuse, refuse_at, Reply, reply, after, tests1_3, tests5_6}

-- The old range is 1 to 999.
abbrev pub most_old : ℕ
most_old = 999

-- the format with the old range
abbrev pub old_range : Format → Format
old_range f = format f.levels most_old

-- ---- the list of pairs
pub record Pair : Type 0 where
  pub old : ℕ
  pub new : ℕ

-- The 16-bit numbers are old label, then new, and so on. An odd one at the end is a half pair: its new label is 0, which is none.
abbrev pub pairs : List ℕ → List Pair
pairs [] = []
pairs (x ∷ []) = record { old = x; new = 0 } ∷ []
pairs (x ∷ y ∷ ns) = record { old = x; new = y } ∷ pairs ns

-- x is an old label of the list
abbrev pub listed : List Pair → ℕ → Bool
listed ps x = any (λ (p : Pair). eqb p.old x) ps

-- x is a new label of the list
abbrev pub taken : List Pair → ℕ → Bool
taken ps x = any (λ (p : Pair). eqb p.new x) ps

-- the labels that occur in the table and in the shape
unfoldable pub occurring : List Row → List Entry → List ℕ
occurring rs es = map (λ (r : Row). r.label) rs ++ join_map named es

-- A pair keeps the rules after the pairs before it: its old label lies in 100 to 999 and the new one in 1 to 99, the new one does not already
-- occur in the table or the shape, no old one stands twice, and no two share a new one.
unfoldable pub pair_kept : Format → List ℕ → List Pair → Pair → Bool
pair_kept f labels before p =
    between (suc f.labels) p.old most_old && between 1 p.new f.labels && not (any (eqb p.new) labels)
    && not (listed before p.old) && not (taken before p.new)

-- the first pair to break a rule, counted from i, after the pairs before it
abbrev pub bad_pair_from : Format → List ℕ → ℕ → List Pair → List Pair → Option ℕ
bad_pair_from f labels i before [] = none
bad_pair_from f labels i before (p ∷ ps) =
    elim (pair_kept f labels before p) [ true ↦ bad_pair_from f labels (suc i) (before ++ (p ∷ [])) ps | false ↦ some i ]

unfoldable pub bad_pair : Format → List ℕ → List Pair → Option ℕ
bad_pair f labels ps = bad_pair_from f labels 0 [] ps

-- a label above 99 that is not in the list
unfoldable pub unlisted : Format → List Pair → ℕ → Bool
unlisted f ps x = ltb f.labels x && not (listed ps x)

-- ---- conversion
-- A label that stands in the list becomes the new one of its pair; every other stays.
abbrev pub converted : List Pair → ℕ → ℕ
converted [] x = x
converted (p ∷ ps) x = elim (eqb p.old x) [ true ↦ p.new | false ↦ converted ps x ]

-- a record with its n labels from byte i on converted; every other byte stays
unfoldable pub record_with : List Pair → ℕ → ℕ → List ℕ → List ℕ
record_with ps i n r = take i r ++ join_map (λ x. bytes 2 (converted ps x)) (words n r i) ++ drop (i + 2 * n) r

-- records of w bytes, one after the other
unfoldable pub records_with : List Pair → ℕ → ℕ → ℕ → List ℕ → List ℕ
records_with ps i n w b = join_map (record_with ps i n) (records w (whole w b) b)

-- A row has one label, at byte 2.
abbrev pub label_at : ℕ
label_at = 2

abbrev pub table_with : Format → List Pair → List ℕ → List ℕ
table_with f ps b = records_with ps label_at 1 (row_bytes f) b

-- An entry has one for each level of the format.
abbrev pub shape_with : Format → List Pair → List ℕ → List ℕ
shape_with f ps s = records_with ps head_bytes f.levels (entry_bytes f) s

-- a row and an entry with their labels converted
abbrev pub row_with : List Pair → Row → Row
row_with ps r =
    record { level = r.level; spare = r.spare; label = converted ps r.label; components = r.components; value = r.value }

abbrev pub entry_with : List Pair → Entry → Entry
entry_with ps e = record { level = e.level; size = e.size; spare = e.spare; labels = map (converted ps) e.labels }

-- ---- the call
pub record Converted : Type 0 where
  pub rows : ℕ  -- the count of rows
  pub entries : ℕ  -- the count of entries

abbrev pub none_converted : Converted
none_converted = record { rows = 0; entries = 0 }

-- After 1 to 3, 5 and 6 on the old range: 25 with the first pair to break a rule; 26, a label above 99 not in the list, with the row, else the
-- entry; 29 where fewer bytes are lent for the table or the shape than are written. Else the counts, and what is written.
unfoldable pub converting : Format → List ℕ → List ℕ → List Pair → ℕ → ℕ → Answer (Converted × List ℕ × List ℕ)
converting f b s ps room-table room-shape = do
  rs ← tests1_3 (old_range f) b
  es ← tests5_6 (old_range f) s
  _ ← refuse_at 25 (bad_pair f (occurring rs es) ps)
  _ ← refuse_at 26 (first_place (λ (r : Row). unlisted f ps r.label) rs)
  _ ← refuse_at 26 (first_place (λ (e : Entry). any (unlisted f ps) (named e)) es)
  let new-table = table_with f ps b
  let new-shape = shape_with f ps s
  _ ← refuse 29 (ltb room-table (length new-table) || ltb room-shape (length new-shape))
  given (record { rows = length rs; entries = length es }, new-table, new-shape)

pub record Converting : Type 0 where
  pub reply : Reply Converted
  pub table : List ℕ  -- the bytes lent for the table afterwards
  pub shape : List ℕ  -- the bytes lent for the shape afterwards

-- the whole answer, and every lent byte
unfoldable pub convert : Format → List ℕ → List ℕ → List ℕ → List ℕ → List ℕ → Converting
convert f b s numbers lent-table lent-shape =
    let a = converting f b s (pairs numbers) (length lent-table) (length lent-shape) in
    record {
      reply = reply none_converted (do x ← a; given x.0);
      table = after lent-table (do x ← a; given x.1);
      shape = after lent-shape (do x ← a; given x.2);
    }
