-- The refusals of a move one by one, and what it writes. Assumes nothing.
use Prim.Native.Nat.{ℕ, ◌≤◌, ◌<◌}
use mathlib.Core.Path.{◌≡◌, refl, sym, ◌∙◌, ap, ap₂, subst}
use mathlib.Core.Bool.{Bool}
use mathlib.Core.List.{List}
use mathlib.Core.Option.{Option, none, some}
use lib.Dec.{ltb}
use lib.ListN.{length}
use lib.Seq.{sets}
use borrow.Author.Tests.{lt-ltb, le-ltb}
use Rattle.paper.specs.Lists.{place}
use Rattle.paper.specs.Format.{Format, row_bytes, entry_bytes, records, whole}
use Rattle.paper.specs.Tables.{rows}
use Rattle.paper.specs.Shapes.{entries}
use Rattle.paper.specs.Calls.{Answer, refused, given, ◌>>=◌, refuse, refuse_at, Reply, tests1_3, tests5_6}
use Rattle.paper.specs.Widths.{records_to, table_to, shape_to, row_deep, entry_deep, moving, moved, move_table, move_shape}
use Rattle.paper.proofs.Calls.{count-rows, count_entries, passed1_3}
use Rattle.octets.proofs.Writing.{front_written}
use Rattle.tables.specs.Place.{place_of}
use Rattle.widths.specs.Moves.{record_deep}
use Rattle.widths.specs.Answers.{Moves}
use Rattle.widths.specs.Tested.{moving_from, move_tested}
use Rattle.widths.proofs.Deep.{table-deep, shape-deep}

-- ---- from an answer to what is told and left
module _ (lent : List ℕ) (a : Answer (ℕ × List ℕ)) where
  moves_refused : (k p : ℕ) → a ≡ refused k p → Moves (moved lent a) (record { number = k; place = p; rest = 0 }) lent
  moves_refused k p e = (sym (ap (λ x. (moved lent x).reply) e), sym (ap (λ x. (moved lent x).bytes) e))

  moves_given : (n : ℕ) (new : List ℕ) → a ≡ given (n, new) → length new ≤ length lent → (after : List ℕ) → after ≡ sets lent 0 new
      → Moves (moved lent a) (record { number = 0; place = 0; rest = n }) after
  moves_given n new e fits after is =
      (sym (ap (λ x. (moved lent x).reply) e), is ∙ front_written lent new fits ∙ sym (ap (λ x. (moved lent x).bytes) e))

-- ---- 24 and 29
module _ (p n : ℕ) (new : List ℕ) (room : ℕ) where
  abbrev tested : Option ℕ → Bool → Answer (ℕ × List ℕ)
  tested deep short = refuse_at 24 deep >>= (λ _. refuse 29 short >>= (λ _. given (n, new)))

  same : moving_from p n new room ≡ tested (place_of p n) (ltb room (length new))
  unfolding moving_from
  same = refl

  refused_24 : (i : ℕ) → some i ≡ place_of p n → moving_from p n new room ≡ refused 24 i
  refused_24 i e = same ∙ ap (λ o. tested o (ltb room (length new))) (sym e)

  refused_29 : none ≡ place_of p n → room < length new → moving_from p n new room ≡ refused 29 0
  refused_29 e lt = same ∙ ap₂ tested (sym e) (lt-ltb room (length new) lt)

  none-refused : none ≡ place_of p n → length new ≤ room → moving_from p n new room ≡ given (n, new)
  none-refused e fits = same ∙ ap₂ tested (sym e) (le-ltb room (length new) fits)

module _ (f g : Format) (w n : ℕ) (b lent : List ℕ) where
  abbrev new : List ℕ
  new = records_to f g w b

  -- the first record too deep, where there is one
  abbrev first : Option ℕ
  first = place_of (place (record_deep g.levels) (records w n b)) n

  pub tested_deep : (i : ℕ) → some i ≡ first → Moves (move_tested f g w n b lent) (record { number = 24; place = i; rest = 0 }) lent
  tested_deep i e = moves_refused lent _ 24 i (refused_24 _ n new (length lent) i e)

  pub tested_short : none ≡ first → length lent < length (records_to f g w b)
      → Moves (move_tested f g w n b lent) (record { number = 29; place = 0; rest = 0 }) lent
  tested_short e lt = moves_refused lent _ 29 0 (refused_29 _ n new (length lent) e lt)

  pub tested_written : none ≡ first → length (records_to f g w b) ≤ length lent
      → (after : List ℕ) → after ≡ sets lent 0 (records_to f g w b) → Moves (move_tested f g w n b lent) (record { number = 0; place = 0; rest = n }) after
  tested_written e fits after is = moves_given lent _ n new (none-refused _ n new (length lent) e fits) fits after is

-- ---- after the tests of a file
module _ {A : Type 0} (tests : Answer (List A)) (deep : A → Bool) (new lent : List ℕ) where
  pub file_refused : (k p : ℕ) → tests ≡ refused k p
      → Moves (moved lent (moving tests deep new (length lent))) (record { number = k; place = p; rest = 0 }) lent
  unfolding moving
  file_refused k p e = moves_refused lent _ k p (ap (λ a. moving a deep new (length lent)) e)

  file_tested : (xs : List A) (p n : ℕ) → tests ≡ given xs → place deep xs ≡ p → length xs ≡ n
      → moving tests deep new (length lent) ≡ moving_from p n new (length lent)
  unfolding moving moving_from place_of
  file_tested xs p n e ep en =
      ap (λ a. moving a deep new (length lent)) e ∙ ap₂ (λ i k. moving_from i k new (length lent)) ep en

module _ (f g : Format) (w n : ℕ) (b lent : List ℕ) (r : Reply ℕ) (left : List ℕ) (moves : Moves (move_tested f g w n b lent) r left) where
  pub table_tested : tests1_3 f b ≡ given (rows f b) → w ≡ row_bytes f → n ≡ whole (row_bytes f) b → Moves (move_table f g b lent) r left
  unfolding move_table
  table_tested e ew en =
      subst (λ m. Moves m r left) (ap₂ (λ v k. move_tested f g v k b lent) ew en
      ∙ sym (ap (moved lent) (file_tested (tests1_3 f b) (row_deep g) (table_to f g b) lent (rows f b) _ _ e
      (table-deep f g b (passed1_3 f b (rows f b) e).1) (count-rows f b)))) moves

  pub shape_tested : tests5_6 f b ≡ given (entries f b) → w ≡ entry_bytes f → n ≡ whole (entry_bytes f) b → Moves (move_shape f g b lent) r left
  unfolding move_shape
  shape_tested e ew en =
      subst (λ m. Moves m r left) (ap₂ (λ v k. move_tested f g v k b lent) ew en
      ∙ sym (ap (moved lent) (file_tested (tests5_6 f b) (entry_deep g) (shape_to f g b) lent (entries f b) _ _ e
      (shape-deep f g b) (count_entries f b)))) moves
