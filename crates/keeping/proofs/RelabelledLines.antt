-- The new table of a table and a shape with their labels converted is the new table of before, with its labels converted. Assumes nothing.
use Prim.Native.Nat.{ℕ, ◌<◌}
use native.Mathlib.Omega.{arith}
use mathlib.Core.Path.{◌≡◌, refl, sym, ◌∙◌, ap, subst}
use mathlib.Core.List.{List, [], ◌∷◌, ◌++◌, map, map-map}
use lib.ListN.{length, get_or, length-map}
use Rattle.paper.specs.Lists.{Has, join_map, last_or, padded}
use Rattle.paper.specs.Format.{Format, row_bytes, word, bytes, records}
use Rattle.paper.specs.Tables.{Row, rows, row_back, types}
use Rattle.paper.specs.Closeness.{nodes}
use Rattle.paper.specs.Shapes.{Entry, Shape, entries, named, shape_over}
use Rattle.paper.specs.NewTable.{Line, lines, line_row, new_table, source_list}
use Rattle.paper.specs.Calls.{Answer, refused, given, ◌>>=◌, reply, after, Work, tests1_4, tests1_7, test8}
use Rattle.paper.specs.Calls.{room_in, reshaping, Reshaping, reshape_rows, reshape}
use Rattle.paper.specs.Labels.{old_range, Pair, converted, record_with, records_with, label_at, table_with, row_with}
use Rattle.paper.proofs.Lists.{join_map_lem, join-same}
use Rattle.paper.proofs.Kept.{get_d_moved}
use Rattle.paper.proofs.Bytes.{Small, Shaped, length-row, whole_back, records_back}
use Rattle.paper.proofs.Written.{line_fits}
use Rattle.paper.proofs.Calls.{passed1_7, passed8}
use Rattle.paper.proofs.Promises.{ways, some-entry, entries-size, source_table, levels, format_small}
use Rattle.keeping.proofs.WidenedLines.{line_shaped}
use Rattle.keeping.proofs.Accepted.{Accepted}
use Rattle.keeping.proofs.RelabelledShapes.{shape_by}
use Rattle.keeping.proofs.RelabelledCalls.{work_with, work_with_lem, eight-with}

-- the bytes of a row with its label converted are its own, with that label converted
back_with : (ps : List Pair) (r : Row) → Small r.label → row_back (row_with ps r) ≡ record_with ps label_at 1 (row_back r)
unfolding row_back record_with
back_with ps r small =
    let read : r.label ≡ word (row_back r) 2 = omega (arith, small) in
    ap (λ x. r.level ∷ r.spare ∷ bytes 2 (converted ps x) ++ join_map (bytes 2) r.components ++ r.value) read

-- ---- a line's row
-- a line's record is of the format's size, and its entry has a label, of 16 bits
abbrev Written : Format → Shape → List Row → Line → Type 0
Written f s rs l = Shaped f (line_row f s rs l) × (l.entry < length s.labels) × Small (get_or s.labels l.entry 0)

line_with : (f : Format) (ps : List Pair) (s : Shape) (rs : List Row) (l : Line) → l.entry < length s.labels
    → line_row f (shape_by (converted ps) s) (map (row_with ps) rs) l ≡ row_with ps (line_row f s rs l)
unfolding line_row
line_with f ps s rs l there =
    λ i. record {
      level = get_or s.levels l.entry 0;
      spare = 0;
      label = get_d_moved (converted ps) s.labels l.entry 0 0 there i;
      components = padded f.levels l.dewey;
      value = get_or (map-map (λ (r : Row). r.value) (row_with ps) rs i) l.source.place [];
    }

new_with : (f : Format) (ps : List Pair) (s : Shape) (rs : List Row) (ls : List Line) → ((l : Line) → Has l ls → Written (old_range f) s rs l)
    → new_table f (shape_by (converted ps) s) (map (row_with ps) rs) ls ≡ table_with f ps (new_table (old_range f) s rs ls)
unfolding new_table records_with line_row
new_with f ps s rs ls each =
    let own : Line → List ℕ = λ l. row_back (line_row f s rs l) in
    let w = row_bytes f in
    let size : (l : Line) → Has l ls → length (own l) ≡ w = λ l h. length-row f (line_row f s rs l) (each l h).0 in
    join-same (λ l. row_back (line_row f (shape_by (converted ps) s) (map (row_with ps) rs) l)) (λ l. record_with ps label_at 1 (own l)) ls (λ l h.
    ap row_back (line_with f ps s rs l (each l h).1) ∙ back_with ps (line_row f s rs l) (each l h).2)
    ∙ sym (join_map_lem (record_with ps label_at 1) own ls)
    ∙ ap (join_map (record_with ps label_at 1)) (sym (ap (λ k. records w k (join_map own ls)) (whole_back w (omega arith) own ls size)
    ∙ records_back w (omega arith) own ls size))

-- a line of a table and a shape past 1 to 7 is of an entry that has a label, of 16 bits where the format's labels are
line_label : (f : Format) (b s : List ℕ) (w : Work) → tests1_7 f b s ≡ given w → Small f.labels
    → let sh = shape_over (types (rows f b)) (entries f s) in
    (l : Line) → Has l (lines (nodes (rows f b)) sh f.levels) → (l.entry < length sh.labels) × Small (get_or sh.labels l.entry 0)
unfolding shape_over
line_label f b s w h small l i =
    let sh = shape_over (types (rows f b)) (entries f s) in
    let last : Entry → ℕ = λ e. last_or 0 (named e) in
    let entry = (line_fits (nodes (rows f b)) (source_table f b s w h).one_place sh (ways f b s w h) (some-entry f b s w h) f.levels
    (λ e le. (levels f b s w h e le).1) l i).0 in
    (omega (arith, entry, entries-size f b s w h, length-map (entries f s) last), format_small f b s w h small l.entry entry)

lines_written : (f : Format) (b s : List ℕ) (w : Work) → tests1_7 f b s ≡ given w → Small f.labels
    → (l : Line) → Has l (lines w.nodes w.shape f.levels) → Written f w.shape w.rows l
lines_written f b s w h small l i =
    let (there, in_bytes) = subst (λ (w : Work). Has l (lines w.nodes w.shape f.levels)
    → (l.entry < length w.shape.labels) × Small (get_or w.shape.labels l.entry 0)) (sym (passed1_7 f b s w h).2) (line_label f b s w h small l) i in
    ((line_shaped f b s w h l i).0, there, in_bytes)

-- table and shape are those of b and s with their labels converted
module _ (f : Format) (ps : List Pair) (b s table shape : List ℕ) (accepted : Accepted f ps b s table shape) where
  -- THE RESHAPE is that of before with the new table's labels converted and the same source list; or it is refused as before.
  pub reshaping-with : (room : ℕ) → reshaping f (tests1_4 f table) shape room ≡ (reshaping (old_range f) (tests1_4 (old_range f) b) s room >>= (λ x. given (table_with f ps x.0, x.1)))
  unfolding reshaping
  reshaping-with room = ap (λ a. a >>= next f) (work_with_lem f ps b s table shape accepted) ∙ go (tests1_7 (old_range f) b s) refl
    where
      write : Format → Shape → List Row → List Line → Answer (List ℕ × List ℕ)
      write h sh rs ls = given (new_table h sh rs ls, source_list ls)

      next : Format → Work → Answer (List ℕ × List ℕ)
      next h w = test8 h w room >>= write h w.shape w.rows

      convert : List ℕ × List ℕ → Answer (List ℕ × List ℕ)
      convert x = given (table_with f ps x.0, x.1)

      written : (w : Work) → tests1_7 (old_range f) b s ≡ given w → (a : Answer (List Line)) → test8 (old_range f) w room ≡ a
          → (a >>= write f (shape_by (converted ps) w.shape) (map (row_with ps) w.rows)) ≡ ((a >>= write (old_range f) w.shape w.rows) >>= convert)
      written w h (refused k p) q = refl
      written w h (given ls) q =
          ap {B = Answer (List ℕ × List ℕ)} (λ t. given (t, source_list ls)) (new_with f ps w.shape w.rows ls (λ l i.
          lines_written (old_range f) b s w h (omega arith) l (subst (λ z. Has l z) (sym (passed8 (old_range f) w room ls q).0) i)))

      go : (a : Answer Work) → tests1_7 (old_range f) b s ≡ a → ((a >>= (λ w. given (work_with ps w))) >>= next f) ≡ ((a >>= next (old_range f)) >>= convert)
      go (refused k p) h = refl
      go (given w) h =
          ap (λ a. a >>= write f (shape_by (converted ps) w.shape) (map (row_with ps) w.rows)) (eight-with f ps w room)
          ∙ written w h (test8 (old_range f) w room) refl

  -- THE CALL, with the same bytes and places lent: the same answer and the same source list in what was lent, and the new table of before, its labels
  -- converted, at the front of the lent bytes; what lies past it stays as it was.
  pub reshape_with_lem : (new sources : List ℕ) → reshape f table shape new sources ≡ record {
    reply = (reshape (old_range f) b s new sources).reply;
    table = after new (reshaping (old_range f) (tests1_4 (old_range f) b) s (room_in f new sources) >>= (λ x. given (table_with f ps x.0)));
    sources = (reshape (old_range f) b s new sources).sources;
  }
  unfolding reshape reshape_rows
  reshape_with_lem new sources = ap left (reshaping-with (room_in f new sources)) ∙ go (reshaping (old_range f) (tests1_4 (old_range f) b) s (room_in f new sources))
    where
      left : Answer (List ℕ × List ℕ) → Reshaping
      left a = record {
        reply = reply 0 (a >>= (λ x. given (length x.1)));
        table = after new (a >>= (λ x. given x.0));
        sources = after sources (a >>= (λ x. given x.1));
      }

      go : (a : Answer (List ℕ × List ℕ)) → left (a >>= (λ x. given (table_with f ps x.0, x.1))) ≡ record {
        reply = reply 0 (a >>= (λ x. given (length x.1)));
        table = after new (a >>= (λ x. given (table_with f ps x.0)));
        sources = after sources (a >>= (λ x. given x.1));
      }
      go (refused k p) = refl
      go (given x) = refl
