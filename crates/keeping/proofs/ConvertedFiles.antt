-- What is read from converted records: the rows and entries with their labels converted, and every other byte as it was. Assumes nothing.
use Prim.Native.Nat.{ℕ, zero, suc, ◌+◌, ◌-◌, ◌*◌, ◌%◌, ◌≤◌, ◌<◌}
use native.Mathlib.Omega.{arith}
use mathlib.Core.Path.{◌≡◌, refl, sym, ◌∙◌, ap, ap₂, subst}
use mathlib.Core.Logic.{inl, inr}
use mathlib.Core.List.{List, [], ◌∷◌, ◌++◌, map, map-map, append_assoc}
use lib.ListN.{length, get_or, take, drop, length-append, length-drop, length-map, get_or-append}
use lib.Seq.{get_or-take, get_or-drop, get_or-append-add, length-take-le}
use Rattle.paper.specs.Lists.{Has, first_or, join_map}
use Rattle.paper.specs.Format.{Format, head_bytes, list_bytes, value_bytes, row_bytes, entry_bytes, byte, word, words, span, records, whole, bytes}
use Rattle.paper.specs.Tables.{Row, row_of, rows}
use Rattle.paper.specs.Shapes.{Entry, entry_of, entries}
use Rattle.paper.specs.Labels.{old_range, Pair, converted, record_with, records_with, label_at, table_with, shape_with, row_with, entry_with}
use Rattle.paper.proofs.Lists.{join_map_lem, has-map, map-has, map_same}
use Rattle.paper.proofs.Bytes.{Small, words_back, length_numbers, whole_back, length_back, records_back, file_record, whole_length}
use Rattle.paper.proofs.Tables.{length-words}
use Rattle.paper.proofs.Calls.{length-records}

-- ---- the numbers of a record whose n labels from byte i on are converted
module _ (ps : List Pair) (i n : ℕ) (r : List ℕ) (le : i + 2 * n ≤ length r) where
  abbrev new : List ℕ
  new = record_with ps i n r

  -- the labels as they are written
  abbrev written : List ℕ
  written = map (converted ps) (words n r i)

  abbrev back : List ℕ
  back = drop (i + 2 * n) r

  pub parts : new ≡ take i r ++ (join_map (bytes 2) written ++ back)
  unfolding record_with
  parts =
      ap (λ l. take i r ++ l ++ back) (sym (join_map_lem (bytes 2) (converted ps) (words n r i))) ∙ append_assoc (take i r) (join_map (bytes 2) written) back

  pub front : length (take i r) ≡ i
  front = length-take-le i r (omega arith)

  count_written : length written ≡ n
  count_written = length-map (words n r i) (converted ps) ∙ length-words n r i

  pub middle : length (join_map (bytes 2) written) ≡ 2 * n
  middle = omega (arith, length_numbers written, count_written)

  pub length-with : length new ≡ length r
  length-with =
      ap length parts
      ∙ (omega (
        arith,
        length-append (take i r) (join_map (bytes 2) written ++ back),
        length-append (join_map (bytes 2) written) back,
        front,
        middle,
        length-drop (i + 2 * n) r,
      ))

  -- what stands before the labels
  front_byte : (j : ℕ) → j < i → byte new j ≡ byte r j
  front_byte j lt =
      ap (λ l. get_or l j 0) parts ∙ get_or-append (take i r) (join_map (bytes 2) written ++ back) 0 j (omega (arith, front)) ∙ get_or-take i r j 0 lt

  front_word : (j : ℕ) → suc j < i → word new j ≡ word r j
  front_word j lt = ap₂ (λ x y. x + 256 * (y + 256 * 0)) (front_byte j (omega arith)) (front_byte (suc j) lt)

  -- the labels, where they are of 16 bits
  labels-with : ((x : ℕ) → Has x (words n r i) → Small (converted ps x)) → words n new i ≡ written
  labels-with small =
      ap₂ (λ k l. words k l i) (sym count_written) parts
      ∙ words_back (take i r) written i back front (λ y h. let (x, k, e) = map-has (converted ps) y (words n r i) h in omega (arith, small x k, e))

  -- what stands behind them
  back_byte : (j : ℕ) → i + 2 * n ≤ j → byte new j ≡ byte r j
  back_byte j lo =
      let k = j - (i + 2 * n) in
      let mid = join_map (bytes 2) written in
      let at : j ≡ length (take i r) + (length mid + k) = omega (arith, front, middle) in
      let own : (i + 2 * n) + k ≡ j = omega arith in
      ap₂ (λ l m. get_or l m 0) parts at ∙ get_or-append-add (take i r) (mid ++ back) (length mid + k) 0 ∙ get_or-append-add mid back k 0
      ∙ get_or-drop (i + 2 * n) r k 0 ∙ ap (byte r) own

  back_words : (m j : ℕ) → i + 2 * n ≤ j → words m new j ≡ words m r j
  back_words zero j lo = refl
  back_words (suc m) j lo =
      ap₂ {C = List ℕ} (λ x l. x ∷ l)
      (ap₂ (λ x y. x + 256 * (y + 256 * 0)) (back_byte j lo) (back_byte (suc j) (omega arith))) (back_words m (suc (suc j)) (omega arith))

  back_span : (m j : ℕ) → i + 2 * n ≤ j → span m new j ≡ span m r j
  back_span zero j lo = refl
  back_span (suc m) j lo = ap₂ {C = List ℕ} (λ x l. x ∷ l) (back_byte j lo) (back_span m (suc j) (omega arith))

-- ---- rows and entries
module _ (f : Format) (ps : List Pair) (r : List ℕ) where
  pub row_with_lem : length r ≡ row_bytes f → Small (converted ps (word r label_at)) → row_of f (record_with ps label_at 1 r) ≡ row_with ps (row_of f r)
  unfolding row_of
  row_with_lem e small =
      let le : label_at + 2 * 1 ≤ length r = omega (arith, e) in
      let label : word (record_with ps label_at 1 r) label_at ≡ converted ps (word r label_at) = ap (first_or 0) (labels-with ps label_at 1 r le only) in
      λ i. record {
        level = front_byte ps label_at 1 r le 0 (omega arith) i;
        spare = front_byte ps label_at 1 r le 1 (omega arith) i;
        label = label i;
        components = back_words ps label_at 1 r le f.levels head_bytes (omega arith) i;
        value = back_span ps label_at 1 r le value_bytes (head_bytes + list_bytes f) (omega arith) i;
      }
    where
      only : (x : ℕ) → Has x (word r label_at ∷ []) → Small (converted ps x)
      only x (inl q) = subst (λ y. Small (converted ps y)) (sym q) small
      only x (inr h) = absurd h

  pub entry_with_lem : length r ≡ entry_bytes f → ((x : ℕ) → Has x (words f.levels r head_bytes) → Small (converted ps x))
      → entry_of f (record_with ps head_bytes f.levels r) ≡ entry_with ps (entry_of f r)
  unfolding entry_of
  entry_with_lem e small =
      let le : head_bytes + 2 * f.levels ≤ length r = omega (arith, e) in
      λ i. record {
        level = front_byte ps head_bytes f.levels r le 0 (omega arith) i;
        size = front_byte ps head_bytes f.levels r le 1 (omega arith) i;
        spare = front_word ps head_bytes f.levels r le 2 (omega arith) i;
        labels = labels-with ps head_bytes f.levels r le small i;
      }

-- ---- a file of records of w bytes
module _ (ps : List Pair) (i n w : ℕ) (pos : 0 < w) (le : i + 2 * n ≤ w) (b : List ℕ) where
  abbrev rs : List (List ℕ)
  rs = records w (whole w b) b

  size : (r : List ℕ) → Has r rs → length (record_with ps i n r) ≡ w
  size r h = let e = file_record w b r h in length-with ps i n r (omega (arith, e)) ∙ e

  -- each record is converted for itself
  records_with_lem : let new = records_with ps i n w b in records w (whole w new) new ≡ map (record_with ps i n) rs
  unfolding records_with
  records_with_lem =
      ap (λ k. records w k (join_map (record_with ps i n) rs)) (whole_back w pos (record_with ps i n) rs size) ∙ records_back w pos (record_with ps i n) rs size

  length_whole : length (records_with ps i n w b) ≡ whole w b * w
  unfolding records_with
  length_whole = length_back w pos (record_with ps i n) rs size ∙ ap (λ k. k * w) (length-records w (whole w b) b)

  -- A converted file of whole records is as long as it was.
  pub length-same : length b % w ≡ 0 → length (records_with ps i n w b) ≡ length b
  length-same even = length_whole ∙ whole_length w b even

  -- what is read of it
  read-with : {A : Type 0} (read : List ℕ → A) (to : A → A) → ((r : List ℕ) → Has r rs → read (record_with ps i n r) ≡ to (read r))
      → let new = records_with ps i n w b in map read (records w (whole w new) new) ≡ map to (map read rs)
  read-with read to one =
      ap (map read) records_with_lem ∙ map-map read (record_with ps i n) rs ∙ map_same (λ r. read (record_with ps i n r)) (λ r. to (read r)) rs one
      ∙ sym (map-map to read rs)

module _ (f : Format) (ps : List Pair) (b : List ℕ) where
  -- THE ROWS OF A CONVERTED TABLE are the table's own with their labels converted, where those are of 16 bits.
  pub rows-with : ((r : Row) → Has r (rows f b) → Small (converted ps r.label)) → rows f (table_with f ps b) ≡ map (row_with ps) (rows f b)
  unfolding rows row_of
  rows-with small =
      read-with ps label_at 1 (row_bytes f) (omega arith) (omega arith) b (row_of f) (row_with ps)
      (λ r h. row_with_lem f ps r (file_record (row_bytes f) b r h)
      (small (row_of f r) (has-map (row_of f) r (records (row_bytes f) (whole (row_bytes f) b) b) h)))

  -- So are the entries of a converted shape.
  pub entries_with : ((e : Entry) → Has e (entries f b) → (x : ℕ) → Has x e.labels → Small (converted ps x))
      → entries f (shape_with f ps b) ≡ map (entry_with ps) (entries f b)
  unfolding entries entry_of
  entries_with small =
      read-with ps head_bytes f.levels (entry_bytes f) (omega arith) (omega arith) b (entry_of f) (entry_with ps)
      (λ r h. entry_with_lem f ps r (file_record (entry_bytes f) b r h)
      (small (entry_of f r) (has-map (entry_of f) r (records (entry_bytes f) (whole (entry_bytes f) b) b) h)))

-- ---- the old range
-- Rows and entries are read alike on both ranges of labels.
module _ (f : Format) (b : List ℕ) where
  pub rows_range : rows (old_range f) b ≡ rows f b
  unfolding rows row_of
  rows_range = refl

  pub entries_range : entries (old_range f) b ≡ entries f b
  unfolding entries entry_of
  entries_range = refl
