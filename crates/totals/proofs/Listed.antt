-- The rows of an entry's type as a reshape to that entry alone lists them, and their values in the table. Assumes nothing.
use Prim.Native.Nat.{ℕ, zero, suc, ◌+◌, ◌*◌, ◌/◌, ◌≤◌, ◌<◌}
use native.Mathlib.Nat.{mul-le-mul_left, mul-add, mul-one, mul-zero, mul-suc, mul_comm, div-mul-le_self, not-suc-le-zero}
use native.Mathlib.Omega.{arith}
use mathlib.Core.Path.{◌≡◌, refl, sym, ◌∙◌, ap, ap₂, subst}
use mathlib.Core.List.{List, [], ◌∷◌, ◌++◌, map}
use lib.ListN.{length, get_or, take, drop, length-map, length-append}
use lib.Seq.{get_or-take, get_or-drop, take-append_seam, drop-drop}
use Rattle.paper.specs.Lists.{Has}
use Rattle.paper.specs.Format.{Format, most_rows, value_bytes, row_bytes, entry_bytes, span, signed, records, whole}
use Rattle.paper.specs.Tables.{Row, row_of, rows}
use Rattle.paper.specs.Closeness.{Node}
use Rattle.paper.specs.Shapes.{entries, kind}
use Rattle.paper.specs.Calls.{Reply, Work, room_in, reshape}
use Rattle.reshaping.specs.Reshaped.{Reshapes}
use Rattle.totals.specs.Alone.{alone}
use Rattle.totals.specs.Tape.{value_of, type_rows}
use Rattle.totals.specs.Rows.{RowsOf, value_at}
use Rattle.totals.proofs.Lists.{map-has, get_d_map}
use Rattle.totals.proofs.Passed.{Passed, count-rows, count_entries, length-records}
use Rattle.totals.proofs.Alone.{places, alone-reshaped}
use Rattle.totals.proofs.Lines.{of_kind_lem}
use Rattle.totals.proofs.Shown.{row-place, place_few, type_rows_few}

-- ---- records within a file
-- a record below the count lies within the file
record_in : (w i l : ℕ) → i < l / w → w * i + w ≤ l
record_in w i l h =
    let more : w * (i + 1) ≤ w * (l / w) = mul-le-mul_left w (omega (arith, h)) in
    omega (arith, more, mul-add w i 1, mul-one w, mul_comm w (l / w), div-mul-le_self l w)

pub entry_in : (f : Format) (sb : List ℕ) (e : ℕ) → e < length (entries f sb) → entry_bytes f * e + entry_bytes f ≤ length sb
entry_in f sb e h = record_in (entry_bytes f) e (length sb) (subst (λ n. e < n) (count_entries f sb) h)

pub row_in : (f : Format) (b : List ℕ) (i : ℕ) → i < length (rows f b) → row_bytes f * i + row_bytes f ≤ length b
row_in f b i h = record_in (row_bytes f) i (length b) (subst (λ n. i < n) (count-rows f b) h)

-- ---- the value of a row, read off the table
-- bytes within a part of the table
span_part : (n w k i : ℕ) (b : List ℕ) → i + n ≤ w → span n (take w (drop k b)) i ≡ span n b (k + i)
span_part zero w k i b h = refl
span_part (suc n) w k i b h =
    ap₂ (λ x xs. x ∷ xs) (get_or-take w (drop k b) i 0 (omega (arith, h)) ∙ get_or-drop k b i 0)
    (span_part n w k (suc i) b (omega (arith, h)) ∙ ap (span n b) (omega arith))

-- record i of a file
record_at : (w n i : ℕ) (b : List ℕ) → i < n → get_or (records w n b) i [] ≡ take w (drop (w * i) b)
record_at w zero i b h = absurd (not-suc-le-zero h)
record_at w (suc n) zero b h = ap (λ k. take w (drop k b)) (sym (mul-zero w))
record_at w (suc n) (suc i) b h =
    let next : w + w * i ≡ w * suc i = omega (arith, mul-suc w i) in
    record_at w n i (drop w b) (omega (arith, h)) ∙ ap (take w) (drop-drop (w * i) w b ∙ ap (λ k. drop k b) next)

-- the values of rows are read off their records
values_are : (f : Format) (xs : List (List ℕ)) → map (λ (x : Row). x.value) (map (row_of f) xs) ≡ map (λ x. span value_bytes x (entry_bytes f)) xs
unfolding row_of
values_are f [] = refl
values_are f (x ∷ xs) = ap (λ l. span value_bytes x (entry_bytes f) ∷ l) (values_are f xs)

pub value_at_lem : (f : Format) (b : List ℕ) (r : Node) → r.place < length (rows f b) → value_at (row_bytes f) (entry_bytes f) b r.place ≡ value_of (rows f b) r
unfolding value_of rows
value_at_lem f b r h =
    let w = row_bytes f in
    let i = r.place in
    let n = whole w b in
    let lt : i < n = subst (λ m. i < m) (count-rows f b) h in
    ap signed
    (sym (span_part value_bytes w (w * i) (entry_bytes f) b (omega arith))
    ∙ ap (λ x. span value_bytes x (entry_bytes f)) (sym (record_at w n i b lt))
    ∙ sym (get_d_map (λ x. span value_bytes x (entry_bytes f)) (records w n b) i [] [] (subst (λ m. i < m) (sym (length-records w n b)) lt))
    ∙ ap (λ l. get_or l i []) (sym (values_are f (records w n b))))

-- ---- the reshape to the entry alone
module _ (f : Format) (b sb : List ℕ) (w : Work) (past : Passed f b sb w) (e : ℕ) where
  pub type_row : (r : Node) → Has r (type_rows w e) → Has r w.nodes
  unfolding type_rows
  type_row r h = (of_kind_lem w.nodes (kind w.shape e) r h).0

  row_below : (r : Node) → Has r w.nodes → r.place < length (rows f b)
  row_below r h = subst (λ rs. r.place < length rs) past.rows_are (row-place w.rows r (subst (Has r) past.nodes_are h))

  -- they are rows of the table
  pub rows_of : RowsOf (row_bytes f) b (places (type_rows w e))
  rows_of i h =
      let found = map-has (λ (r : Node). r.place) i (type_rows w e) h in
      let r = found.0 in
      let here = type_row r found.1 in (
        subst (λ j. j < most_rows) (sym found.2) (place_few f b sb w past r here),
        subst (λ j. row_bytes f * j + row_bytes f ≤ length b) (sym found.2) (row_in f b r.place (row_below r here)),
      )

  -- and have the values that the table gives them
  pub values_of : (r : Node) → Has r (type_rows w e) → value_at (row_bytes f) (entry_bytes f) b r.place ≡ value_of w.rows r
  values_of r h = value_at_lem f b r (row_below r (type_row r h)) ∙ ap (λ rs. value_of rs r) (sym past.rows_are)

-- what a reshape to the entry alone leaves
pub record Listed (w : Work) (e : ℕ) (r : Reply ℕ) (sources : List ℕ) : Type 0 where
  pub accepted : r.number ≡ 0
  pub rows_are : take r.rest sources ≡ places (type_rows w e)
  pub long : r.rest ≤ length sources
  pub few : r.rest ≤ most_rows

pub listed : (f : Format) (b sb : List ℕ) (w : Work) (past : Passed f b sb w) (e : ℕ) → e < length (entries f sb)
    → (new sources : List ℕ) → most_rows ≤ room_in f new sources → (one : List ℕ) → one ≡ alone f sb e
    → {r : Reply ℕ} {new' sources' : List ℕ} → Reshapes f b one new sources r new' sources' → Listed w e r sources'
listed f b sb w past e inside new sources room one is-alone {r} {new'} {sources'} x =
    let rows = type_rows w e in
    let few = type_rows_few f b sb w past e in
    let whole = alone-reshaped f b sb w past e inside new sources (omega (arith, few, room)) in
    let asked : reshape f b one new sources ≡ reshape f b (alone f sb e) new sources = ap (λ s. reshape f b s new sources) is-alone in
    let answer = x.answer ∙ ap (λ y. y.reply) asked ∙ whole.0 in
    let count : r.rest ≡ length rows = ap (λ (y : Reply ℕ). y.rest) answer in
    let left : sources' ≡ places rows ++ drop (length rows) sources = x.places ∙ ap (λ y. y.sources) asked ∙ whole.1 in
    let size = length-map rows (λ (y : Node). y.place) in record {
      accepted = ap (λ (y : Reply ℕ). y.number) answer;
      rows_are = (λ j. take ((count ∙ sym size) j) (left j)) ∙ take-append_seam (places rows) (drop (length rows) sources);
      long = omega (arith, count, size, ap length left, length-append (places rows) (drop (length rows) sources));
      few = omega (arith, count, few);
    }
