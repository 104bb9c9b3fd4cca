-- What the calls that widen and narrow answer and leave. Assumes nothing.
use Prim.Native.Nat.{ℕ, ◌*◌, ◌<◌}
use native.Mathlib.Omega.{arith}
use mathlib.Core.Path.{◌≡◌, sym, ◌∙◌, ap, ap₂, subst}
use mathlib.Core.Bool.{Bool, ◌||◌}
use mathlib.Core.List.{List, ◌++◌}
use mathlib.Core.Option.{Option, none}
use lib.Dec.{ltb}
use lib.ListN.{length, take, drop}
use lib.Seq.{take_at}
use borrow.Author.Tests.{le-ltb}
use Rattle.paper.specs.Lists.{first_place}
use Rattle.paper.specs.Format.{Format, row_bytes, entry_bytes, whole}
use Rattle.paper.specs.Calls.{Answer, refused, given, ◌>>=◌, refuse, refuse_at, reply, after, tests1_3, tests5_6}
use Rattle.paper.specs.Widths.{deeper, record_to, records_to, table_to, shape_to, row_deep, entry_deep, moving, moved, move_table, move_shape}
use Rattle.paper.proofs.Kept.{none_first}
use Rattle.paper.proofs.Shapes.{each_part}
use Rattle.paper.proofs.Calls.{Told, bind_told, refuse-told, refuse_at-told, told1_3, told5_6, bind_given, given-same, reply-given}
use Rattle.paper.proofs.Calls.{passed1_3, passed5_6, count-rows, count_entries}
use Rattle.keeping.proofs.Moved.{wide-size, narrow_size, length_moved}
use Rattle.keeping.proofs.WidenedTables.{sound-level}

-- ---- widening never answers 24
-- a number that is not 24
abbrev Other : ℕ → Type 0
Other k = k ≡ 24 → ⊥

reply-told : {A : Type 0} (P : ℕ → Type 0) → P 0 → (zeros : A) (a : Answer A) → Told P a → P (reply zeros a).number
reply-told P zero zeros (refused k p) h = h
reply-told P zero zeros (given v) h = zero

module _ {A : Type 0} (tests : Answer (List A)) (deep : A → Bool) (new lent : List ℕ) where
  abbrev over : Bool
  over = ltb (length lent) (length new)

  abbrev answer : Answer (ℕ × List ℕ)
  answer = moving tests deep new (length lent)

  -- where nothing that passes the tests is too deep, no 24
  not-deep : Told Other tests → ((xs : List A) → tests ≡ given xs → first_place deep xs ≡ none) → (moved lent answer).reply.number ≡ 24 → ⊥
  unfolding moving
  not-deep told shallow =
      reply-told Other (λ e. omega arith) 0 (answer >>= (λ x. given x.0))
      (bind_told Other answer (λ x. given x.0) (bind_told Other tests _ told (λ xs e. rest xs (first_place deep xs) (shallow xs e))) (λ _ _. tt))
    where
      end : List A → Option ℕ → Answer (ℕ × List ℕ)
      end xs o = refuse_at 24 o >>= (λ _. refuse 29 over >>= (λ _. given (length xs, new)))

      rest : (xs : List A) (o : Option ℕ) → o ≡ none → Told Other (end xs o)
      rest xs o e =
          subst (λ o. Told Other (end xs o)) (sym e)
          (bind_told Other (refuse 29 over) _ (refuse-told Other 29 over (λ e. omega arith)) (λ _ _. tt))

  -- accepted, it counts what passed the tests and leaves what it writes at the front
  pub move-given : Told (λ k. 0 < k) tests → (moved lent answer).reply.number ≡ 0
      → (xs : List A) × (tests ≡ given xs) × ((moved lent answer).reply.rest ≡ length xs) × ((moved lent answer).bytes ≡ new ++ drop (length new) lent)
  unfolding moving
  move-given told e =
      let count : ℕ × List ℕ → Answer ℕ = λ x. given x.0 in
      let (k, h, r) = reply-given 0 (answer >>= count) (bind_told (λ k. 0 < k) answer count numbered (λ _ _. tt)) e in
      let (x, h₁, k₁) = bind_given answer count k h in
      let (xs, h₂, k₂) = bind_given tests _ x h₁ in
      let (u, h₃, k₃) = bind_given (refuse_at 24 (first_place deep xs)) _ x k₂ in
      let (v, h₄, k₄) = bind_given (refuse 29 over) _ x k₃ in
      let q : ◌≡◌ {A = ℕ × List ℕ} (length xs, new) x = given-same (length xs, new) x k₄ in
      let counted = r ∙ sym (given-same x.0 k k₁) ∙ sym (ap (λ (x : ℕ × List ℕ). x.0) q) in
      (xs, h₂, counted, left x h₁ ∙ sym (ap (λ (x : ℕ × List ℕ). x.1 ++ drop (length x.1) lent) q))
    where
      numbered : Told (λ k. 0 < k) answer
      numbered =
          bind_told (λ k. 0 < k) tests _ told (λ xs _.
          bind_told (λ k. 0 < k) (refuse_at 24 (first_place deep xs)) _ (refuse_at-told (λ k. 0 < k) 24 (first_place deep xs) (omega arith)) (λ _ _.
          bind_told (λ k. 0 < k) (refuse 29 over) _ (refuse-told (λ k. 0 < k) 29 over (omega arith)) (λ _ _. tt)))

      left : (x : ℕ × List ℕ) → answer ≡ given x → (moved lent answer).bytes ≡ x.1 ++ drop (length x.1) lent
      left x h = ap (λ a. after lent (a >>= (λ (x : ℕ × List ℕ). given x.1))) h

-- ---- tables and shapes
module _ (f : Format) (n : ℕ) (b lent : List ℕ) where
  abbrev g : Format
  g = deeper f n

  -- WIDENING A TABLE never answers 24: no row that keeps the rules is too deep for more levels.
  pub widening_not_deep : (move_table f g b lent).reply.number ≡ 24 → ⊥
  unfolding move_table
  widening_not_deep =
      not-deep (tests1_3 f b) (row_deep g) (table_to f g b) lent (told1_3 Other (λ e. omega arith) (λ e. omega arith) (λ e. omega arith) f b) (λ rs h.
      none_first (row_deep g) rs (λ r i. le-ltb g.levels r.level (omega (arith, sound-level f rs (passed1_3 f b rs h).1 r i))))

  -- Nor does widening a shape.
  pub widening_not_deep_shape : (move_shape f g b lent).reply.number ≡ 24 → ⊥
  unfolding move_shape
  widening_not_deep_shape =
      not-deep (tests5_6 f b) (entry_deep g) (shape_to f g b) lent (told5_6 Other (λ e. omega arith) (λ e. omega arith) f b) (λ es h.
      none_first (entry_deep g) es (λ e i.
      let p = (each_part f es (passed5_6 f b es h).1 e i).1 in
      ap₂ (λ x y. x || y) (le-ltb g.levels e.level (omega (arith, p.level))) (le-ltb g.levels e.size (omega (arith, p.size)))))

-- ---- what is left in the lent bytes
-- a file moved from format f to format g, whose records of w bytes get v
module _ {A : Type 0} (f g : Format) (w v : ℕ) (pos : 0 < v) (size : (r : List ℕ) → length r ≡ w → length (record_to f g r) ≡ v) (b lent : List ℕ)
    (tests : Answer (List A)) (deep : A → Bool) (told : Told (λ k. 0 < k) tests) (count : (xs : List A) → tests ≡ given xs → length xs ≡ whole w b) where
  file_left : let m = moved lent (moving tests deep (records_to f g w b) (length lent)) in m.reply.number ≡ 0
      → take (m.reply.rest * v) m.bytes ≡ records_to f g w b
  file_left e =
      let new = records_to f g w b in
      let (xs, h, counted, bytes) = move-given tests deep new lent told e in
      ap₂ (λ k l. take (k * v) l) (counted ∙ count xs h) bytes ∙ take_at new (drop (length new) lent) (whole w b * v) (length_moved f g w v pos size b)

module _ (f g : Format) (b lent : List ℕ) where
  table_left : ((r : List ℕ) → length r ≡ row_bytes f → length (record_to f g r) ≡ row_bytes g) → let m = move_table f g b lent in m.reply.number ≡ 0
      → take (m.reply.rest * row_bytes g) m.bytes ≡ table_to f g b
  unfolding move_table
  table_left size =
      file_left f g (row_bytes f) (row_bytes g) (omega arith) size b lent (tests1_3 f b) (row_deep g)
      (told1_3 (λ k. 0 < k) (omega arith) (omega arith) (omega arith) f b) (λ rs h. ap length (sym (passed1_3 f b rs h).0) ∙ count-rows f b)

  shape_left : ((r : List ℕ) → length r ≡ entry_bytes f → length (record_to f g r) ≡ entry_bytes g) → let m = move_shape f g b lent in m.reply.number ≡ 0
      → take (m.reply.rest * entry_bytes g) m.bytes ≡ shape_to f g b
  unfolding move_shape
  shape_left size =
      file_left f g (entry_bytes f) (entry_bytes g) (omega arith) size b lent (tests5_6 f b) (entry_deep g)
      (told5_6 (λ k. 0 < k) (omega arith) (omega arith) f b) (λ es h. ap length (sym (passed5_6 f b es h).0) ∙ count_entries f b)

module _ (f : Format) (n : ℕ) (b lent : List ℕ) where
  -- WIDENING A TABLE, accepted, leaves the widened table at the front: as many records as it counts.
  pub widened_left : let m = move_table f (deeper f n) b lent in m.reply.number ≡ 0
      → take (m.reply.rest * row_bytes (deeper f n)) m.bytes ≡ table_to f (deeper f n) b
  widened_left = table_left f (deeper f n) b lent (wide-size f n (row_bytes f) (row_bytes (deeper f n)) (omega arith) (omega arith))

  -- So does narrowing one with the narrowed table.
  pub narrowed_left : let m = move_table (deeper f n) f b lent in m.reply.number ≡ 0
      → take (m.reply.rest * row_bytes f) m.bytes ≡ table_to (deeper f n) f b
  narrowed_left = table_left (deeper f n) f b lent (narrow_size f n (row_bytes f) (row_bytes (deeper f n)) (omega arith) (omega arith))

  -- So do widening and narrowing a shape.
  pub widened_left_shape : let m = move_shape f (deeper f n) b lent in m.reply.number ≡ 0
      → take (m.reply.rest * entry_bytes (deeper f n)) m.bytes ≡ shape_to f (deeper f n) b
  widened_left_shape = shape_left f (deeper f n) b lent (wide-size f n (entry_bytes f) (entry_bytes (deeper f n)) (omega arith) (omega arith))

  pub narrowed_left_shape : let m = move_shape (deeper f n) f b lent in m.reply.number ≡ 0
      → take (m.reply.rest * entry_bytes f) m.bytes ≡ shape_to (deeper f n) f b
  narrowed_left_shape = shape_left (deeper f n) f b lent (narrow_size f n (entry_bytes f) (entry_bytes (deeper f n)) (omega arith) (omega arith))
