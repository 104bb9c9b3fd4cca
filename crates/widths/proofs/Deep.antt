-- The first record that is too deep. Assumes nothing.
use Prim.Native.Nat.{ℕ, suc}
use native.Mathlib.Omega.{arith}
use mathlib.Core.Path.{◌≡◌, refl, sym, ◌∙◌, ap, ap₂}
use mathlib.Core.Bool.{Bool, true, false, true≢false, ◌||◌}
use mathlib.Core.List.{List, ◌∷◌, map, []}
use mathlib.Core.Option.{none}
use lib.Dec.{eqb, ltb}
use borrow.Author.Tests.{le-ltb, eqb-true, eqb-false}
use Rattle.paper.specs.Lists.{place}
use Rattle.paper.specs.Format.{Format, row_bytes, entry_bytes, byte, records, whole}
use Rattle.paper.specs.Tables.{row_of, rows, dewey, fields_kept, follows, row_kept, bad_row}
use Rattle.paper.specs.Shapes.{entry_of, entries}
use Rattle.paper.specs.Widths.{row_deep, entry_deep}
use Rattle.paper.proofs.Lists.{both, or_none}
use Rattle.paper.proofs.Tables.{Rules, none-rules}
use Rattle.tables.proofs.Laws.{spare_set}
use Rattle.widths.specs.Moves.{record_deep}

-- ---- the place of what passes a test
pub place_map : {A B : Type 0} (p : B → Bool) (g : A → B) (xs : List A) → place p (map g xs) ≡ place (λ x. p (g x)) xs
place_map p g [] = refl
place_map p g (x ∷ xs) = ap (λ n. elim (p (g x)) as (λ _. ℕ) [ true ↦ 0 | false ↦ suc n ]) (place_map p g xs)

-- ---- rows and entries
module _ (f g : Format) where
  -- A row that keeps the rules has zero as its second byte.
  row_spare : (r : List ℕ) → fields_kept f (row_of f r) ≡ true → byte r 1 ≡ 0
  row_spare r kept = go (eqb (byte r 1) 0) refl
    where
      go : (t : Bool) → eqb (byte r 1) 0 ≡ t → byte r 1 ≡ 0
      go true e = eqb-true (byte r 1) 0 e
      go false e = absurd (true≢false (sym kept ∙ spare_set f r (eqb-false (byte r 1) 0 e)))

  row_deep_lem : (r : List ℕ) → fields_kept f (row_of f r) ≡ true → row_deep g (row_of f r) ≡ record_deep g.levels r
  unfolding row_of
  row_deep_lem r kept =
      let second : ltb g.levels (byte r 1) ≡ false = ap (ltb g.levels) (row_spare r kept) ∙ le-ltb g.levels 0 (omega arith) in
      sym (ap (λ x. ltb g.levels (byte r 0) || x) second ∙ or_none (ltb g.levels (byte r 0)))

  rows-deep : (p : List ℕ) (rs : List (List ℕ)) → Rules (row_kept f) dewey p (map (row_of f) rs)
      → place (row_deep g) (map (row_of f) rs) ≡ place (record_deep g.levels) rs
  unfolding row_kept
  rows-deep p [] k = refl
  rows-deep p (r ∷ rs) k =
      ap₂ (λ t n. elim t as (λ _. ℕ) [ true ↦ 0 | false ↦ suc n ])
      (row_deep_lem r (both (fields_kept f (row_of f r)) (follows p (dewey (row_of f r))) k.0).0)
      (rows-deep (dewey (row_of f r)) rs k.1)

  -- The first row too deep of a table that keeps the rules is its first record that is.
  pub table-deep : (b : List ℕ) → bad_row f (rows f b) ≡ none
      → place (row_deep g) (rows f b) ≡ place (record_deep g.levels) (records (row_bytes f) (whole (row_bytes f) b) b)
  unfolding rows bad_row
  table-deep b sound =
      rows-deep [] (records (row_bytes f) (whole (row_bytes f) b) b) (none-rules (row_kept f) dewey 0 [] (rows f b) sound)

  -- So of a shape.
  pub shape-deep : (s : List ℕ)
      → place (entry_deep g) (entries f s) ≡ place (record_deep g.levels) (records (entry_bytes f) (whole (entry_bytes f) s) s)
  unfolding entries entry_of
  shape-deep s = place_map (entry_deep g) (entry_of f) (records (entry_bytes f) (whole (entry_bytes f) s) s)
