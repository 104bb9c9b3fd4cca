-- The refusals of a conversion one by one, and what it writes. Assumes nothing.
use Prim.Native.Nat.{ℕ, ◌≤◌, ◌<◌}
use native.Mathlib.Omega.{arith}
use mathlib.Core.Path.{◌≡◌, refl, sym, ◌∙◌, ap, ap₂}
use mathlib.Core.Bool.{Bool, true, false, ◌||◌}
use mathlib.Core.List.{List}
use mathlib.Core.Option.{Option, none, some}
use lib.Dec.{eqb, ltb}
use lib.ListN.{length}
use lib.Seq.{sets}
use borrow.Author.Tests.{lt-ltb, le-ltb, ne_eqb}
use Rattle.paper.specs.Lists.{any, place, first_place, join_map}
use Rattle.paper.specs.Format.{Format, head_bytes, row_bytes, entry_bytes, records}
use Rattle.paper.specs.Tables.{Row, rows}
use Rattle.paper.specs.Shapes.{Entry, entries, named, bad_entry}
use Rattle.paper.specs.Calls.{Answer, refused, given, ◌>>=◌, refuse, refuse_at, reply, after, tests1_3, tests5_6}
use Rattle.paper.specs.Labels as Labels
use Rattle.paper.specs.Labels.{old_range, Pair, pairs, occurring, bad_pair, unlisted, record_with, records_with, label_at, table_with, shape_with}
use Rattle.paper.specs.Labels.{none_converted, converting, Converting, convert}
use Rattle.paper.proofs.Lists.{or_left, or_right}
use Rattle.paper.proofs.Calls.{count-rows, count_entries, whole1_3, passed5, passed5_6}
use Rattle.keeping.proofs.ConvertedFiles.{length-same}
use Rattle.octets.proofs.Writing.{front_written}
use Rattle.tables.specs.Place.{place_of}
use Rattle.labels.specs.Records.{any_unlisted, standing}
use Rattle.labels.specs.Answers.{Converts}
use Rattle.labels.specs.Tested.{Tested}
use Rattle.labels.proofs.Listed.{unlisted-small}
use Rattle.labels.proofs.Zeros.{rows-first, entries-first, occurring_any, bad_same}

-- what is given: the counts, the new table, the new shape
abbrev Given : Type 0
Given = Labels.Converted × List ℕ × List ℕ

-- ---- from an answer to what is told and left
module _ (lent-table lent-shape : List ℕ) where
  abbrev left : Answer Given → Converting
  left a = record {
    reply = reply none_converted (a >>= (λ (x : Given). given x.0));
    table = after lent-table (a >>= (λ (x : Given). given x.1));
    shape = after lent-shape (a >>= (λ (x : Given). given x.2));
  }

  converts_refused : (a : Answer Given) (k p : ℕ) → a ≡ refused k p
      → Converts (left a) (record { number = k; place = p; rest = none_converted }) lent-table lent-shape
  converts_refused a k p e = (sym (ap (λ x. (left x).reply) e), sym (ap (λ x. (left x).table) e), sym (ap (λ x. (left x).shape) e))

  converts_given : (a : Answer Given) (n m : ℕ) (t u : List ℕ) → a ≡ given (record { rows = n; entries = m }, t, u)
      → length t ≤ length lent-table → length u ≤ length lent-shape
      → (new-table new-shape : List ℕ) → new-table ≡ sets lent-table 0 t → new-shape ≡ sets lent-shape 0 u
      → Converts (left a) (record { number = 0; place = 0; rest = record { rows = n; entries = m } }) new-table new-shape
  converts_given a n m t u e room-table room-shape new-table new-shape et eu = (
    sym (ap (λ x. (left x).reply) e),
    et ∙ front_written lent-table t room-table ∙ sym (ap (λ x. (left x).table) e),
    eu ∙ front_written lent-shape u room-shape ∙ sym (ap (λ x. (left x).shape) e),
  )

-- ---- the tests
module _ (f : Format) (b s l lent-table lent-shape : List ℕ) where
  abbrev ps : List Pair
  ps = pairs l

  abbrev answer : Answer Given
  answer = converting f b s ps (length lent-table) (length lent-shape)

  pub call-refused : (k p : ℕ) → converting f b s (pairs l) (length lent-table) (length lent-shape) ≡ refused k p
      → Converts (convert f b s l lent-table lent-shape) (record { number = k; place = p; rest = none_converted }) lent-table lent-shape
  unfolding convert
  call-refused k p e = converts_refused lent-table lent-shape answer k p e

  -- what follows the tests of both files
  abbrev tested : Option ℕ → Option ℕ → Option ℕ → Bool → ℕ → ℕ → Answer Given
  tested bad row entry short n m =
      refuse_at 25 bad >>= (λ _. refuse_at 26 row >>= (λ _. refuse_at 26 entry >>= (λ _. refuse 29 short >>= (λ _.
      given (record { rows = n; entries = m }, table_with f ps b, shape_with f ps s)))))

  abbrev follows : List Row → List Entry → Answer Given
  follows rs es =
      tested (bad_pair f (occurring rs es) ps) (first_place (λ (r : Row). unlisted f ps r.label) rs)
      (first_place (λ (e : Entry). any (unlisted f ps) (named e)) es)
      (ltb (length lent-table) (length (table_with f ps b)) || ltb (length lent-shape) (length (shape_with f ps s))) (length rs) (length es)

  in_order_lem : (x : Answer (List Row)) (y : Answer (List Entry)) → tests1_3 (old_range f) b ≡ x → tests5_6 (old_range f) s ≡ y
      → answer ≡ x >>= (λ rs. y >>= (λ es. follows rs es))
  unfolding converting
  in_order_lem x y ex ey = ap₂ (λ (x : Answer (List Row)) (y : Answer (List Entry)). x >>= (λ rs. y >>= (λ es. follows rs es))) ex ey

  pub table-refused : (k p : ℕ) → tests1_3 (old_range f) b ≡ refused k p
      → Converts (convert f b s l lent-table lent-shape) (record { number = k; place = p; rest = none_converted }) lent-table lent-shape
  table-refused k p e = call-refused k p (in_order_lem (refused k p) (tests5_6 (old_range f) s) e refl)

  pub shape-refused : (rs : List Row) → tests1_3 (old_range f) b ≡ given rs → (k p : ℕ) → tests5_6 (old_range f) s ≡ refused k p
      → Converts (convert f b s l lent-table lent-shape) (record { number = k; place = p; rest = none_converted }) lent-table lent-shape
  shape-refused rs t k p e = call-refused k p (in_order_lem (given rs) (refused k p) t e)

  -- ---- of two files that pass their tests
  module _ (n m : ℕ) (passed : Tested f b s n m) where
    abbrev rs : List Row
    rs = rows (old_range f) b

    abbrev es : List Entry
    es = entries (old_range f) s

    sound : bad_entry (old_range f) es ≡ none
    sound = (passed5_6 (old_range f) s es passed.shape_passes).1

    none-unlisted : unlisted f ps 0 ≡ false
    none-unlisted = sym (unlisted-small f ps 0 (omega arith))

    -- the first pair to break a rule
    pairs-first : bad_pair f (occurring rs es) ps ≡ bad_pair f (standing f b s) ps
    pairs-first =
        sym (bad_same f (standing f b s) (occurring rs es)
        (λ x lo. occurring_any (eqb x) (ne_eqb x 0 (λ (z : x ≡ 0). let w : ⊥ = omega arith in w)) f b s sound) ps)

    table-length : length (table_with f ps b) ≡ length b
    table-length =
        length-same ps label_at 1 (row_bytes f) (omega arith) (omega arith) b (whole1_3 (old_range f) b rs passed.table_passes)

    shape-length : length (shape_with f ps s) ≡ length s
    shape-length =
        length-same ps head_bytes f.levels (entry_bytes f) (omega arith) (omega arith) s (passed5 (old_range f) s es passed.shape_passes).2

    -- the first row and the first entry with a label that is not in the list
    abbrev first_row : Option ℕ
    first_row = first_place (λ (r : Row). unlisted f (pairs l) r.label) (rows (old_range f) b)

    abbrev first_entry : Option ℕ
    first_entry = first_place (λ (e : Entry). any (unlisted f (pairs l)) (named e)) (entries (old_range f) s)

    pub row-place : (w : ℕ) (o : Option ℕ) → w ≡ row_bytes f → o ≡ place_of (place (any_unlisted f (pairs l) label_at 1) (records w n b)) n → o ≡ first_row
    row-place w o ew eo =
        let counted = passed.counted.rows-counted in
        eo ∙ ap₂ place_of (ap₂ (λ w n. place (any_unlisted f ps label_at 1) (records w n b)) ew counted) counted
        ∙ sym (rows-first (unlisted f ps) none-unlisted f b s)

    pub entry_place : (v : ℕ) (o : Option ℕ) → v ≡ entry_bytes f → o ≡ place_of (place (any_unlisted f (pairs l) head_bytes f.levels) (records v m s)) m
        → o ≡ first_entry
    entry_place v o ev eo =
        let counted = passed.counted.entries-counted in
        eo ∙ ap₂ place_of (ap₂ (λ v m. place (any_unlisted f ps head_bytes f.levels) (records v m s)) ev counted) counted
        ∙ sym (entries-first (unlisted f ps) none-unlisted f b s sound)

    abbrev short : Bool
    short = ltb (length lent-table) (length (table_with f ps b)) || ltb (length lent-shape) (length (shape_with f ps s))

    -- the answer, from what each test finds
    answer_is : (bad row entry : Option ℕ) (t : Bool) → bad_pair f (occurring rs es) ps ≡ bad → first_place (λ (r : Row). unlisted f ps r.label) rs ≡ row
        → first_place (λ (e : Entry). any (unlisted f ps) (named e)) es ≡ entry → short ≡ t → answer ≡ tested bad row entry t (length rs) (length es)
    answer_is bad row entry t eb er ee et =
        in_order_lem (given rs) (given es) passed.table_passes passed.shape_passes
        ∙ (λ i. tested (eb i) (er i) (ee i) (et i) (length rs) (length es))

    pub refused_25 : (pair : ℕ) → some pair ≡ bad_pair f (standing f b s) (pairs l)
        → Converts (convert f b s l lent-table lent-shape) (record { number = 25; place = pair; rest = none_converted }) lent-table lent-shape
    refused_25 pair e = call-refused 25 pair (answer_is _ _ _ _ (pairs-first ∙ sym e) refl refl refl)

    module _ (right : none ≡ bad_pair f (standing f b s) (pairs l)) where
      no_pair : bad_pair f (occurring rs es) ps ≡ none
      no_pair = pairs-first ∙ sym right

      pub refused-row : (row : ℕ) → some row ≡ first_row
          → Converts (convert f b s l lent-table lent-shape) (record { number = 26; place = row; rest = none_converted }) lent-table lent-shape
      refused-row row e = call-refused 26 row (answer_is _ _ _ _ no_pair (sym e) refl refl)

      module _ (rows-listed : none ≡ first_row) where
        pub refused-entry : (entry : ℕ) → some entry ≡ first_entry
            → Converts (convert f b s l lent-table lent-shape) (record { number = 26; place = entry; rest = none_converted }) lent-table lent-shape
        refused-entry entry e = call-refused 26 entry (answer_is _ _ _ _ no_pair (sym rows-listed) (sym e) refl)

        module _ (entries-listed : none ≡ first_entry) where
          too_short_lem : short ≡ true
              → Converts (convert f b s l lent-table lent-shape) (record { number = 29; place = 0; rest = none_converted }) lent-table lent-shape
          too_short_lem e = call-refused 29 0 (answer_is _ _ _ _ no_pair (sym rows-listed) (sym entries-listed) e)

          pub refused-table : length lent-table < length b
              → Converts (convert f b s l lent-table lent-shape) (record { number = 29; place = 0; rest = none_converted }) lent-table lent-shape
          refused-table lt =
              too_short_lem (or_left (ltb (length lent-shape) (length (shape_with f ps s)))
              (lt-ltb (length lent-table) (length (table_with f ps b)) (omega (arith, lt, table-length))))

          pub refused-shape : length lent-shape < length s
              → Converts (convert f b s l lent-table lent-shape) (record { number = 29; place = 0; rest = none_converted }) lent-table lent-shape
          refused-shape lt =
              too_short_lem (or_right (ltb (length lent-table) (length (table_with f ps b)))
              (lt-ltb (length lent-shape) (length (shape_with f ps s)) (omega (arith, lt, shape-length))))

          pub accepted : length b ≤ length lent-table → length s ≤ length lent-shape → (w v : ℕ) → w ≡ row_bytes f → v ≡ entry_bytes f
              → (new-table new-shape : List ℕ) → new-table ≡ sets lent-table 0 (join_map (record_with (pairs l) label_at 1) (records w n b))
              → new-shape ≡ sets lent-shape 0 (join_map (record_with (pairs l) head_bytes f.levels) (records v m s))
              → Converts (convert f b s l lent-table lent-shape) (record { number = 0; place = 0; rest = record { rows = n; entries = m } }) new-table new-shape
          unfolding convert records_with
          accepted room-table room-shape w v ew ev new-table new-shape et eu =
              let rows-counted = passed.counted.rows-counted in
              let entries-counted = passed.counted.entries-counted in
              let fits : short ≡ false =
              ap₂ ◌||◌ (le-ltb (length lent-table) (length (table_with f ps b)) (omega (arith, room-table, table-length)))
              (le-ltb (length lent-shape) (length (shape_with f ps s)) (omega (arith, room-shape, shape-length))) in
              let counts : answer ≡ given (record { rows = n; entries = m }, table_with f ps b, shape_with f ps s) =
              answer_is _ _ _ _ no_pair (sym rows-listed) (sym entries-listed) fits
              ∙ ap₂ (λ n m. given (record { rows = n; entries = m }, table_with f ps b, shape_with f ps s)) (count-rows (old_range f) b ∙ sym rows-counted)
              (count_entries (old_range f) s ∙ sym entries-counted) in
              converts_given lent-table lent-shape answer n m (table_with f ps b) (shape_with f ps s) counts (omega (arith, room-table, table-length))
              (omega (arith, room-shape, shape-length)) new-table new-shape
              (et ∙ ap₂ (λ w n. sets lent-table 0 (join_map (record_with ps label_at 1) (records w n b))) ew rows-counted)
              (eu ∙ ap₂ (λ v m. sets lent-shape 0 (join_map (record_with ps head_bytes f.levels) (records v m s))) ev entries-counted)
