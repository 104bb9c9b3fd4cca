-- A file with nothing too deep is narrowed, and widened again it is what it was. What the calls that widen and narrow leave. Assumes nothing.
use Prim.Native.Nat.{ℕ, zero, suc, ◌+◌, ◌*◌, ◌≤◌}
use native.Mathlib.Omega.{arith}
use mathlib.Core.Path.{◌≡◌, refl, sym, ◌∙◌, ap, ap₂, subst}
use mathlib.Core.Bool.{Bool, true, false, ◌&&◌, ◌||◌, true≢false}
use mathlib.Core.List.{List, [], ◌∷◌, ◌++◌, map}
use mathlib.Core.Option.{none}
use lib.Dec.{eqb, ltb}
use lib.ListN.{length, take, drop, replicate}
use lib.Seq.{drop-cons, drop-append-le}
use borrow.Author.Tests.{eqb-true, ltb-false}
use Rattle.paper.specs.Lists.{Has, all, first_place, between}
use Rattle.paper.specs.Format.{Format, head_bytes, row_bytes, entry_bytes, byte, word, words, records, whole}
use Rattle.paper.specs.Tables.{Row, row_of, rows, dewey, fields_kept, follows, row_kept, bad_row}
use Rattle.paper.specs.Shapes.{Entry, entry_of, entries}
use Rattle.paper.specs.Calls.{given, tests1_3, tests5_6}
use Rattle.paper.specs.Widths.{deeper, record_to, table_to, shape_to, entry_to, row_to, row_deep, entry_deep}
use Rattle.paper.proofs.Lists.{both, all-has, has_all, has_right, has-map}
use Rattle.paper.proofs.Kept.{first-none}
use Rattle.paper.proofs.Tables.{none-rules, rules-each, length-words}
use Rattle.paper.proofs.Shapes.{each_part}
use Rattle.paper.proofs.Bytes.{file_record}
use Rattle.paper.proofs.Calls.{bind_given, passed1_3, whole1_3, passed5, passed5_6}
use Rattle.keeping.proofs.Moved.{narrow_size, record_forth, moved_back, whole-moved}
use Rattle.keeping.proofs.Widened.{words_add, entries_widened}
use Rattle.keeping.proofs.WidenedTables.{tests1_3_widened}
use Rattle.keeping.proofs.WidenedShapes.{widened_shape}

-- ---- the zeros that a record loses
zero-bytes : (m : ℕ) (r : List ℕ) (i : ℕ) → i + 2 * m ≤ length r → all (eqb 0) (words m r i) ≡ true → take (2 * m) (drop i r) ≡ replicate (2 * m) 0
zero-bytes zero r i le h = refl
zero-bytes (suc m) r i le h =
    let (first, rest) = both (eqb 0 (word r i)) (all (eqb 0) (words m r (suc (suc i)))) h in
    let e : 0 ≡ word r i = eqb-true 0 (word r i) first in
    let lo : byte r i ≡ 0 = omega arith in
    let hi : byte r (suc i) ≡ 0 = omega arith in
    let two : 2 * suc m ≡ suc (suc (2 * m)) = omega arith in
    let open₀ : drop i r ≡ 0 ∷ 0 ∷ drop (suc (suc i)) r =
    drop-cons r i 0 (omega arith) ∙ ap₂ {C = List ℕ} (λ x l. x ∷ l) lo (drop-cons r (suc i) 0 (omega arith) ∙ ap (λ x. x ∷ drop (suc (suc i)) r) hi) in
    ap₂ (λ k l. take k l) two open₀ ∙ ap {B = List ℕ} (λ l. 0 ∷ 0 ∷ l) (zero-bytes m r (suc (suc i)) (omega arith) rest)
    ∙ ap (λ k. replicate {A = ℕ} k 0) (sym two)

-- A record whose components, or labels, are zero from a level of the narrow format on is narrowed and widened to what it was.
record_kept : (f : Format) (n : ℕ) (r : List ℕ) → entry_bytes (deeper f n) ≤ length r → (k : ℕ) → k ≤ f.levels
    → all (eqb 0) (drop k (words (f.levels + n) r head_bytes)) ≡ true → record_to f (deeper f n) (record_to (deeper f n) f r) ≡ r
record_kept f n r le k low h =
    let own = words f.levels r head_bytes in
    let lost = words n r (entry_bytes f) in
    let e : drop k (words (f.levels + n) r head_bytes) ≡ drop k own ++ lost =
    ap (drop k) (words_add f.levels n r head_bytes) ∙ drop-append-le k own lost (omega (arith, length-words f.levels r head_bytes)) in
    let zeros : all (eqb 0) lost ≡ true =
    has_all (eqb 0) lost (λ x i. all-has (eqb 0) x (drop k own ++ lost) (ap (all (eqb 0)) (sym e) ∙ h) (has_right x (drop k own) lost i)) in
    record_forth f n r le (zero-bytes n r (entry_bytes f) (omega arith) zeros)

neither : (x y : Bool) → x || y ≡ false → (x ≡ false) × (y ≡ false)
neither true y e = absurd (true≢false e)
neither false y e = (refl, e)

-- ---- tables
row-zeros : (f : Format) (r : Row) → fields_kept f r ≡ true → all (eqb 0) (drop r.level r.components) ≡ true
unfolding fields_kept
row-zeros f r h =
    (both (between 1 r.level f.levels && eqb r.spare 0 && between 1 r.label f.labels) (all (eqb 0) (drop r.level r.components)) h).1

module _ (f : Format) (n : ℕ) (c : List ℕ) (rs : List Row) (passed : tests1_3 (deeper f n) c ≡ given rs) (none_deep : first_place (row_deep f) rs ≡ none) where
  abbrev g : Format
  g = deeper f n

  abbrev narrow : List ℕ
  narrow = table_to g f c

  zeros_past : (r : Row) → Has r rs → all (eqb 0) (drop r.level r.components) ≡ true
  unfolding bad_row row_kept
  zeros_past r h =
      let (p, k) = rules-each (row_kept g) dewey [] rs (none-rules (row_kept g) dewey 0 [] rs (passed1_3 g c rs passed).1) r h in
      row-zeros g r (both (fields_kept g r) (follows p (dewey r)) k).0

  record_row : (r : List ℕ) → Has r (records (row_bytes g) (whole (row_bytes g) c) c) → record_to f g (record_to g f r) ≡ r
  unfolding rows row_of
  record_row r h =
      let own = row_of g r in
      let there : Has own rs = subst (λ z. Has own z) (passed1_3 g c rs passed).0 (has-map (row_of g) r (records (row_bytes g) (whole (row_bytes g) c) c) h) in
      record_kept f n r (omega (arith, file_record (row_bytes g) c r h)) own.level
      (ltb-false f.levels own.level (first-none (row_deep f) rs none_deep own there)) (zeros_past own there)

  -- WIDENING A NARROWED TABLE gives back the same bytes, where the table is accepted and no row is too deep.
  pub widen_narrowed : table_to f g narrow ≡ c
  widen_narrowed =
      moved_back g f (row_bytes g) (row_bytes f) (omega arith) (narrow_size f n (row_bytes f) (row_bytes g) (omega arith) (omega arith)) c
      (whole1_3 g c rs passed) record_row

  -- The narrowed table is accepted.
  pub narrowed_kept : tests1_3 f narrow ≡ given (rows f narrow)
  narrowed_kept =
      let even = whole-moved g f (row_bytes g) (row_bytes f) (omega arith) (narrow_size f n (row_bytes f) (row_bytes g) (omega arith) (omega arith)) c in
      let (x, own, q) = bind_given (tests1_3 f narrow) (λ rs. given (map (row_to n) rs)) rs
      (sym (tests1_3_widened f n narrow even) ∙ ap (tests1_3 g) widen_narrowed ∙ passed) in
      own ∙ ap given (sym (passed1_3 f narrow x own).0)

-- ---- shapes
module _ (f : Format) (n : ℕ) (c : List ℕ) (es : List Entry) (passed : tests5_6 (deeper f n) c ≡ given es)
    (none_deep : first_place (entry_deep f) es ≡ none) where
  abbrev g' : Format
  g' = deeper f n

  abbrev narrow_shape : List ℕ
  narrow_shape = shape_to g' f c

  -- an entry is on a level of the narrow format, and so long is its type
  shallow : (e : Entry) → Has e es → (e.level ≤ f.levels) × (e.size ≤ f.levels)
  shallow e h =
      let (level, size) = neither (ltb f.levels e.level) (ltb f.levels e.size) (first-none (entry_deep f) es none_deep e h) in
      (ltb-false f.levels e.level level, ltb-false f.levels e.size size)

  record_entry : (r : List ℕ) → Has r (records (entry_bytes g') (whole (entry_bytes g') c) c) → record_to f g' (record_to g' f r) ≡ r
  unfolding entries entry_of
  record_entry r h =
      let own = entry_of g' r in
      let (q, sound, pos, few) = passed5_6 g' c es passed in
      let there : Has own es = subst (λ z. Has own z) q (has-map (entry_of g') r (records (entry_bytes g') (whole (entry_bytes g') c) c) h) in
      record_kept f n r (omega (arith, file_record (entry_bytes g') c r h)) own.size (shallow own there).1 (each_part g' es sound own there).1.zeros

  -- Widening a narrowed shape gives back the same bytes, where the shape is accepted and no entry is too deep.
  pub widen_narrowed_shape : shape_to f g' narrow_shape ≡ c
  widen_narrowed_shape =
      moved_back g' f (entry_bytes g') (entry_bytes f) (omega arith) (narrow_size f n (entry_bytes f) (entry_bytes g') (omega arith) (omega arith)) c
      (passed5 g' c es passed).2 record_entry

  -- The narrowed shape is accepted.
  pub narrowed_kept_shape : tests5_6 f narrow_shape ≡ given (entries f narrow_shape)
  narrowed_kept_shape =
      let even = whole-moved g' f (entry_bytes g') (entry_bytes f) (omega arith) (narrow_size f n (entry_bytes f) (entry_bytes g') (omega arith) (omega arith)) c in
      let same : map (entry_to n) (entries f narrow_shape) ≡ es =
      sym (entries_widened f n narrow_shape) ∙ ap (entries g') widen_narrowed_shape ∙ (passed5_6 g' c es passed).0 in
      widened_shape f n narrow_shape es (ap (tests5_6 g') widen_narrowed_shape ∙ passed) even (λ e h.
      (shallow (entry_to n e) (subst (λ z. Has (entry_to n e) z) same (has-map (entry_to n) e (entries f narrow_shape) h))).0)
