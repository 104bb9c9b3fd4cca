-- The lines of a widened table by a widened shape are the table's own, widened one by one. Assumes nothing.
use Prim.Native.Nat.{ℕ, zero, suc, ◌+◌, ◌-◌, ◌*◌, ◌%◌, ◌≤◌}
use native.Mathlib.Omega.{arith}
use mathlib.Core.Path.{◌≡◌, refl, sym, ◌∙◌, ap, ap₂, subst}
use mathlib.Core.List.{List, [], ◌∷◌, ◌++◌, map, map-map, append_assoc}
use lib.Dec.{ltb}
use lib.ListN.{length, get_or, replicate, length-append, replicate-append-replicate}
use lib.Seq.{take_at, drop_at}
use Rattle.paper.specs.Lists.{Has, join_map, padded}
use Rattle.paper.specs.Format.{Format, most_lines, row_bytes, entry_bytes, bytes, records}
use Rattle.paper.specs.Tables.{Row, rows, row_back, types}
use Rattle.paper.specs.Closeness.{nodes}
use Rattle.paper.specs.Shapes.{Entry, Shape, entries, entry_kept, bad_entry, shape_over}
use Rattle.paper.specs.NewTable.{Line, lines, line_row, new_table, source_list}
use Rattle.paper.specs.Figures.{Figures, figures, no_figures}
use Rattle.paper.specs.Calls.{Answer, refused, given, ◌>>=◌, refuse, reply, after, Work, tests1_4, tests5_6, tests1_7, test8, room_in, reshaping, Reshaping, reshape_rows, reshape, summarise_rows, summarise}
use Rattle.paper.specs.Widths.{deeper, record_to, records_to, table_to, shape_to, row_to}
use Rattle.paper.proofs.Lists.{join_append, join_map_lem, join-same}
use Rattle.paper.proofs.Kept.{padded_longer}
use Rattle.paper.proofs.Tables.{none-rules}
use Rattle.paper.proofs.Shapes.{level_of}
use Rattle.paper.proofs.Deep.{format_enough}
use Rattle.paper.proofs.Bytes.{Shaped, length-row, length_numbers, whole_back, records_back}
use Rattle.paper.proofs.Reread
use Rattle.paper.proofs.Calls.{passed1_7, passed5_6, passed8}
use Rattle.paper.proofs.Promises.{ways, some-entry, source_table, numbered, few, levels}
use Rattle.keeping.proofs.Moved.{wider}
use Rattle.keeping.proofs.WidenedCalls.{work_to, work_widened}

-- ---- a row's bytes
zero_numbers : (n : ℕ) → join_map (bytes 2) (replicate n 0) ≡ replicate (2 * n) 0
zero_numbers zero = refl
zero_numbers (suc n) =
    let two : suc (suc (2 * n)) ≡ 2 * suc n = omega arith in
    ap {B = List ℕ} (λ l. 0 ∷ 0 ∷ l) (zero_numbers n) ∙ ap (λ k. replicate {A = ℕ} k 0) two

-- the bytes of a widened row are its own, widened
back_widened : (f : Format) (n : ℕ) (r : Row) → Shaped f r → row_back (row_to n r) ≡ record_to f (deeper f n) (row_back r)
unfolding row_back
back_widened f n r (c, v) =
    let head = r.level ∷ r.spare ∷ bytes 2 r.label in
    let parts = join_map (bytes 2) r.components in
    let front = head ++ parts in
    let zeros : List ℕ = replicate (2 * n) 0 in
    let size : length front ≡ entry_bytes f = omega (arith, length-append head parts, length_numbers r.components) in
    let long : entry_bytes f ≤ length (front ++ r.value) = omega (arith, length-append front r.value) in
    ap (λ l. head ++ l ++ r.value) (join_append (bytes 2) r.components (replicate n 0) ∙ ap (λ l. parts ++ l) (zero_numbers n))
    ∙ ap (λ l. l ++ r.value) (sym (append_assoc head parts zeros)) ∙ append_assoc front zeros r.value
    ∙ ap₂ (λ x y. x ++ (zeros ++ y)) (sym (take_at front r.value (entry_bytes f) size)) (sym (drop_at front r.value (entry_bytes f) size))
    ∙ sym (wider f n (front ++ r.value) long)

-- ---- a line's row
padded-more : (m n : ℕ) (d : List ℕ) → length d ≤ m → padded (m + n) d ≡ padded m d ++ replicate n 0
padded-more m n d le =
    let k = m - length d in
    let far : m + n ≡ length d + (k + n) = omega arith in
    let near : length d + k ≡ m = omega arith in
    ap (λ j. padded j d) far ∙ padded_longer (length d) (k + n) d refl ∙ ap (λ l. d ++ l) (sym (replicate-append-replicate k n 0))
    ∙ sym (append_assoc d (replicate k 0) (replicate n 0))
    ∙ ap (λ l. l ++ replicate n 0) (sym (padded_longer (length d) k d refl) ∙ ap (λ j. padded j d) near)

line_widened : (f : Format) (n : ℕ) (s : Shape) (rs : List Row) (l : Line) → length l.dewey ≤ f.levels
    → line_row (deeper f n) s (map (row_to n) rs) l ≡ row_to n (line_row f s rs l)
unfolding line_row
line_widened f n s rs l le =
    λ i. record {
      level = get_or s.levels l.entry 0;
      spare = 0;
      label = get_or s.labels l.entry 0;
      components = padded-more f.levels n l.dewey le i;
      value = get_or (map-map (λ (r : Row). r.value) (row_to n) rs i) l.source.place [];
    }

new_widened : (f : Format) (n : ℕ) (s : Shape) (rs : List Row) (ls : List Line)
    → ((l : Line) → Has l ls → Shaped f (line_row f s rs l) × (length l.dewey ≤ f.levels))
    → new_table (deeper f n) s (map (row_to n) rs) ls ≡ table_to f (deeper f n) (new_table f s rs ls)
unfolding new_table records_to
new_widened f n s rs ls each =
    let own : Line → List ℕ = λ l. row_back (line_row f s rs l) in
    let w = row_bytes f in
    let size : (l : Line) → Has l ls → length (own l) ≡ w = λ l h. length-row f (line_row f s rs l) (each l h).0 in
    join-same (λ l. row_back (line_row (deeper f n) s (map (row_to n) rs) l)) (λ l. record_to f (deeper f n) (own l)) ls (λ l h.
    ap row_back (line_widened f n s rs l (each l h).1) ∙ back_widened f n (line_row f s rs l) (each l h).0)
    ∙ sym (join_map_lem (record_to f (deeper f n)) own ls)
    ∙ ap (join_map (record_to f (deeper f n))) (sym (ap (λ k. records w k (join_map own ls)) (whole_back w (omega arith) own ls size)
    ∙ records_back w (omega arith) own ls size))

-- each line is a record of the format, on a level that it has
pub line_shaped : (f : Format) (b s : List ℕ) (w : Work) → tests1_7 f b s ≡ given w → (l : Line) → Has l (lines w.nodes w.shape f.levels)
    → Shaped f (line_row f w.shape w.rows l) × (length l.dewey ≤ f.levels)
line_shaped f b s w h l i =
    let e = (passed1_7 f b s w h).2 in
    subst (λ (w : Work).
    Has l (lines w.nodes w.shape f.levels) → Shaped f (line_row f w.shape w.rows l) × (length l.dewey ≤ f.levels)) (sym e)
    (λ i. (
      Reread.shaped f b (shape_over (types (rows f b)) (entries f s)) (ways f b s w h) (some-entry f b s w h) (source_table f b s w h).one_place
          (numbered f b s w h) (omega (arith, few f b s w h)) (levels f b s w h) l i,
      Reread.line_levels f b (shape_over (types (rows f b)) (entries f s)) (ways f b s w h) (some-entry f b s w h) (source_table f b s w h).one_place
          (numbered f b s w h) (omega (arith, few f b s w h)) (levels f b s w h) l i,
    )) i

-- ---- a table of whole records and a shape past 5 and 6
module _ (f : Format) (n : ℕ) (b : List ℕ) (even : length b % row_bytes f ≡ 0) (s : List ℕ) (es : List Entry) (sound : tests5_6 f s ≡ given es) where
  abbrev g : Format
  g = deeper f n

  abbrev wide : List ℕ
  wide = table_to f g b

  abbrev wide_shape : List ℕ
  wide_shape = shape_to f g s

  -- no line lies on a further level
  lines_widened : (w : Work) → tests1_7 f b s ≡ given w → lines w.nodes w.shape g.levels ≡ lines w.nodes w.shape f.levels
  unfolding bad_entry
  lines_widened w h =
      let (a, c, e) = passed1_7 f b s w h in
      let (q, kept, pos, few) = passed5_6 f s (entries f s) c in
      subst (λ (w : Work). lines w.nodes w.shape g.levels ≡ lines w.nodes w.shape f.levels) (sym e)
      (format_enough f (types (rows f b)) (entries f s) (none-rules (entry_kept f) level_of 0 0 (entries f s) kept) pos (nodes (rows f b)) n)

  test8_widened : (w : Work) → tests1_7 f b s ≡ given w → (room : ℕ) → test8 g (work_to n w) room ≡ test8 f w room
  unfolding test8
  test8_widened w h room = ap (λ ls. refuse 8 (ltb room (length ls)) >>= (λ _. given ls)) (lines_widened w h)

  -- THE SUMMARY of a widened table by a widened shape is the table's own.
  pub summarise_widened : summarise g wide wide_shape ≡ summarise f b s
  unfolding summarise summarise_rows
  summarise_widened = ap (λ a. reply no_figures (a >>= next g)) (work_widened f n b even s es sound) ∙ go (tests1_7 f b s) refl
    where
      next : Format → Work → Answer Figures
      next h w = test8 h w most_lines >>= (λ ls. given (figures w.nodes w.shape ls))

      go : (a : Answer Work) → tests1_7 f b s ≡ a → reply no_figures ((a >>= (λ w. given (work_to n w))) >>= next g) ≡ reply no_figures (a >>= next f)
      go (refused k p) h = refl
      go (given w) h = ap (λ a. reply no_figures (a >>= (λ ls. given (figures w.nodes w.shape ls)))) (test8_widened w h most_lines)

  -- THE RESHAPE of a widened table by a widened shape is the table's own, widened line by line, with the same source list; or it is refused alike.
  pub reshape_widened : (room : ℕ) → reshaping g (tests1_4 g wide) wide_shape room ≡ (reshaping f (tests1_4 f b) s room >>= (λ x. given (table_to f g x.0, x.1)))
  unfolding reshaping
  reshape_widened room = ap (λ a. a >>= next g) (work_widened f n b even s es sound) ∙ go (tests1_7 f b s) refl
    where
      write : Format → Shape → List Row → List Line → Answer (List ℕ × List ℕ)
      write h sh rs ls = given (new_table h sh rs ls, source_list ls)

      next : Format → Work → Answer (List ℕ × List ℕ)
      next h w = test8 h w room >>= write h w.shape w.rows

      widen : List ℕ × List ℕ → Answer (List ℕ × List ℕ)
      widen x = given (table_to f g x.0, x.1)

      written : (w : Work) → tests1_7 f b s ≡ given w → (a : Answer (List Line)) → test8 f w room ≡ a
          → (a >>= write g w.shape (map (row_to n) w.rows)) ≡ ((a >>= write f w.shape w.rows) >>= widen)
      written w h (refused k p) q = refl
      written w h (given ls) q =
          ap {B = Answer (List ℕ × List ℕ)} (λ t. given (t, source_list ls)) (new_widened f n w.shape w.rows ls (λ l i.
          line_shaped f b s w h l (subst (λ z. Has l z) (sym (passed8 f w room ls q).0) i)))

      go : (a : Answer Work) → tests1_7 f b s ≡ a → ((a >>= (λ w. given (work_to n w))) >>= next g) ≡ ((a >>= next f) >>= widen)
      go (refused k p) h = refl
      go (given w) h =
          ap (λ a. a >>= write g w.shape (map (row_to n) w.rows)) (test8_widened w h room) ∙ written w h (test8 f w room) refl

  -- THE CALL, where both have room for as many lines: the same answer and the same source list in what was lent, and the new table, widened, at the front of the
  -- lent bytes; what lies past it stays as it was.
  pub reshape_left_widened : (new new' sources : List ℕ) → room_in g new' sources ≡ room_in f new sources
      → reshape g wide wide_shape new' sources ≡ record {
        reply = (reshape f b s new sources).reply;
        table = after new' (reshaping f (tests1_4 f b) s (room_in f new sources) >>= (λ x. given (table_to f g x.0)));
        sources = (reshape f b s new sources).sources;
      }
  unfolding reshape reshape_rows
  reshape_left_widened new new' sources e =
      ap (λ k. left (reshaping g (tests1_4 g wide) wide_shape k)) e ∙ ap left (reshape_widened (room_in f new sources)) ∙ go (reshaping f (tests1_4 f b) s (room_in f new sources))
    where
      left : Answer (List ℕ × List ℕ) → Reshaping
      left a = record {
        reply = reply 0 (a >>= (λ x. given (length x.1)));
        table = after new' (a >>= (λ x. given x.0));
        sources = after sources (a >>= (λ x. given x.1));
      }

      go : (a : Answer (List ℕ × List ℕ)) → left (a >>= (λ x. given (table_to f g x.0, x.1))) ≡ record {
        reply = reply 0 (a >>= (λ x. given (length x.1)));
        table = after new' (a >>= (λ x. given (table_to f g x.0)));
        sources = after sources (a >>= (λ x. given x.1));
      }
      go (refused k p) = refl
      go (given x) = refl
