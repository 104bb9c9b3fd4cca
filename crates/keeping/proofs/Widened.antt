-- What is read from widened records: the rows and entries with zeros behind their components and labels, and the same types. Assumes nothing.
use Prim.Native.Nat.{ℕ, zero, suc, ◌+◌, ◌-◌, ◌*◌, ◌≤◌, ◌<◌}
use native.Mathlib.Omega.{arith}
use mathlib.Core.Path.{◌≡◌, refl, sym, ◌∙◌, ap, ap₂}
use mathlib.Core.List.{List, [], ◌∷◌, ◌++◌, map, map-map}
use lib.ListN.{length, get_or, take, drop, replicate, length-replicate, get_or-replicate, get_or-append}
use lib.Seq.{get_or-take, get_or-drop, get_or-append-add, length-take-le}
use Rattle.paper.specs.Lists.{distinct, ways}
use Rattle.paper.specs.Format.{Format, head_bytes, list_bytes, value_bytes, row_bytes, entry_bytes, byte, word, words, span, records, whole}
use Rattle.paper.specs.Tables.{Row, row_of, rows, row_types, types}
use Rattle.paper.specs.Shapes.{entry_of, entries}
use Rattle.paper.specs.Widths.{deeper, record_to, records_to, table_to, shape_to, row_to, entry_to}
use Rattle.paper.proofs.Lists.{map_same}
use Rattle.paper.proofs.Bytes.{file_record}
use Rattle.keeping.proofs.Moved.{wider, wide-size, records-moved}

pub words_add : (m k : ℕ) (b : List ℕ) (i : ℕ) → words (m + k) b i ≡ words m b i ++ words k b (i + 2 * m)
words_add zero k b i = ap₂ (λ j p. words j b p) at at_start
  where
    at : zero + k ≡ k
    at = omega arith

    at_start : i ≡ i + 2 * zero
    at_start = omega arith
words_add (suc m) k b i =
    ap (λ j. words j b i) more ∙ ap {B = List ℕ} (λ l. word b i ∷ l) (words_add m k b (suc (suc i)) ∙ ap (λ p. words m b (suc (suc i)) ++ words k b p) far)
  where
    more : suc m + k ≡ suc (m + k)
    more = omega arith

    far : suc (suc i) + 2 * m ≡ i + 2 * suc m
    far = omega arith

-- ---- the numbers of a widened record
module _ (f : Format) (n : ℕ) (r : List ℕ) (le : entry_bytes f ≤ length r) where
  abbrev a : ℕ
  a = entry_bytes f

  abbrev wide : List ℕ
  wide = record_to f (deeper f n) r

  abbrev zeros : List ℕ
  zeros = replicate (2 * n) 0

  front : length (take a r) ≡ a
  front = length-take-le a r le

  -- what stands before the zeros
  front_byte : (i : ℕ) → i < a → byte wide i ≡ byte r i
  front_byte i lt =
      ap (λ l. get_or l i 0) (wider f n r le) ∙ get_or-append (take a r) (zeros ++ drop a r) 0 i (omega (arith, front)) ∙ get_or-take a r i 0 lt

  pub front_word : (i : ℕ) → suc i < a → word wide i ≡ word r i
  front_word i lt = ap₂ (λ x y. x + 256 * (y + 256 * 0)) (front_byte i (omega arith)) (front_byte (suc i) lt)

  front_words : (m i : ℕ) → i + 2 * m ≤ a → words m wide i ≡ words m r i
  front_words zero i lt = refl
  front_words (suc m) i lt = ap₂ {C = List ℕ} (λ x l. x ∷ l) (front_word i (omega arith)) (front_words m (suc (suc i)) (omega arith))

  -- what stands from the zeros on
  past_byte : (i j : ℕ) → i ≡ a + j → byte wide i ≡ byte (zeros ++ drop a r) j
  past_byte i j e =
      let at : i ≡ length (take a r) + j = omega (arith, front) in
      ap₂ (λ l k. get_or l k 0) (wider f n r le) at ∙ get_or-append-add (take a r) (zeros ++ drop a r) j 0

  zero-byte : (i : ℕ) → a ≤ i → i < a + 2 * n → byte wide i ≡ 0
  zero-byte i lo hi =
      past_byte i (i - a) (omega arith) ∙ get_or-append zeros (drop a r) 0 (i - a) (omega (arith, length-replicate {A = ℕ} (2 * n) 0))
      ∙ get_or-replicate (2 * n) (i - a) 0 0 (omega arith)

  zero-words : (m i : ℕ) → a ≤ i → i + 2 * m ≤ a + 2 * n → words m wide i ≡ replicate m 0
  zero-words zero i lo hi = refl
  zero-words (suc m) i lo hi =
      ap₂ {C = List ℕ} (λ x l. x ∷ l)
      (ap₂ (λ x y. x + 256 * (y + 256 * 0)) (zero-byte i lo (omega arith)) (zero-byte (suc i) (omega arith) (omega arith)))
      (zero-words m (suc (suc i)) (omega arith) (omega arith))

  -- what stands behind them
  back_byte : (i k : ℕ) → a ≤ k → i ≡ k + 2 * n → byte wide i ≡ byte r k
  back_byte i k lo e =
      let on : 2 * n + (k - a) ≡ length zeros + (k - a) = omega (arith, length-replicate {A = ℕ} (2 * n) 0) in
      let at : a + (k - a) ≡ k = omega arith in
      past_byte i (2 * n + (k - a)) (omega arith) ∙ ap (byte (zeros ++ drop a r)) on ∙ get_or-append-add zeros (drop a r) (k - a) 0
      ∙ get_or-drop a r (k - a) 0 ∙ ap (byte r) at

  back_span : (m i k : ℕ) → a ≤ k → i ≡ k + 2 * n → span m wide i ≡ span m r k
  back_span zero i k lo e = refl
  back_span (suc m) i k lo e = ap₂ {C = List ℕ} (λ x l. x ∷ l) (back_byte i k lo e) (back_span m (suc i) (suc k) (omega arith) (omega arith))

  -- components, or labels
  pub wide-words : words (f.levels + n) wide head_bytes ≡ words f.levels r head_bytes ++ replicate n 0
  wide-words =
      words_add f.levels n wide head_bytes
      ∙ ap₂ (λ x y. x ++ y) (front_words f.levels head_bytes (omega arith)) (zero-words n a (omega arith) (omega arith))

  pub wide_value : span value_bytes wide (head_bytes + list_bytes (deeper f n)) ≡ span value_bytes r (head_bytes + list_bytes f)
  wide_value = back_span value_bytes (head_bytes + list_bytes (deeper f n)) a (omega arith) (omega arith)

  pub row_widened : row_of (deeper f n) wide ≡ row_to n (row_of f r)
  unfolding row_of
  row_widened =
      λ i. record {
        level = front_byte 0 (omega arith) i;
        spare = front_byte 1 (omega arith) i;
        label = front_word 2 (omega arith) i;
        components = wide-words i;
        value = wide_value i;
      }

  pub entry_widened : entry_of (deeper f n) wide ≡ entry_to n (entry_of f r)
  unfolding entry_of
  entry_widened =
      λ i. record {
        level = front_byte 0 (omega arith) i;
        size = front_byte 1 (omega arith) i;
        spare = front_word 2 (omega arith) i;
        labels = wide-words i;
      }

-- ---- the records of a widened file, read
module _ {A : Type 0} (f : Format) (n w v : ℕ) (le : entry_bytes f ≤ w) (more : v ≡ w + 2 * n) (read read' : List ℕ → A) (to : A → A)
    (one : (r : List ℕ) → entry_bytes f ≤ length r → read' (record_to f (deeper f n) r) ≡ to (read r)) where
  read_widened : (b : List ℕ) → let new = records_to f (deeper f n) w b in
      map read' (records v (whole v new) new) ≡ map to (map read (records w (whole w b) b))
  read_widened b =
      let rs = records w (whole w b) b in
      ap (map read') (records-moved f (deeper f n) w v (omega arith) (wide-size f n w v le more) b)
      ∙ map-map read' (record_to f (deeper f n)) rs
      ∙ map_same (λ r. read' (record_to f (deeper f n) r)) (λ r. to (read r)) rs (λ r h. one r (omega (arith, file_record w b r h)))
      ∙ sym (map-map to read rs)

module _ (f : Format) (n : ℕ) (b : List ℕ) where
  -- THE ROWS OF A WIDENED TABLE are the table's own, with zeros behind their components.
  pub rows_widened : rows (deeper f n) (table_to f (deeper f n) b) ≡ map (row_to n) (rows f b)
  unfolding rows
  rows_widened =
      read_widened f n (row_bytes f) (row_bytes (deeper f n)) (omega arith) (omega arith) (row_of f) (row_of (deeper f n)) (row_to n) (row_widened f n) b

  -- So are the entries of a widened shape, with zeros behind their labels.
  pub entries_widened : entries (deeper f n) (shape_to f (deeper f n) b) ≡ map (entry_to n) (entries f b)
  unfolding entries
  entries_widened =
      read_widened f n (entry_bytes f) (entry_bytes (deeper f n)) (omega arith) (omega arith) (entry_of f) (entry_of (deeper f n)) (entry_to n) (entry_widened f n) b

-- ---- types
-- rows have the types that they have without the zeros
pub same-row-types : (n : ℕ) (rs : List Row) → row_types (map (row_to n) rs) ≡ row_types rs
unfolding row_types
same-row-types n rs = ap (ways []) (map-map (λ (r : Row). (r.level, r.label)) (row_to n) rs)

pub same-types : (n : ℕ) (rs : List Row) → types (map (row_to n) rs) ≡ types rs
unfolding types
same-types n rs = ap distinct (same-row-types n rs)

-- THE TYPES OF A WIDENED TABLE, row by row and as they are numbered, are the table's own.
pub types_widened : (f : Format) (n : ℕ) (b : List ℕ)
    → let wide = rows (deeper f n) (table_to f (deeper f n) b) in (row_types wide ≡ row_types (rows f b)) × (types wide ≡ types (rows f b))
types_widened f n b =
    let e = rows_widened f n b in
    (ap row_types e ∙ same-row-types n (rows f b), ap types e ∙ same-types n (rows f b))
