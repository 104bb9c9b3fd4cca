-- Whole lines: their room, and the line of a type by its level. Assumes nothing.
use Prim.Native.Nat.{ℕ}
use mathlib.Core.Path.{◌≡◌, refl, sym, ap}
use mathlib.Core.List.{List, ◌++◌, append-nil}
use borrow.Author.Tests.{eq-eqb, ne_eqb}
use Rattle.paper.specs.Adorned.{Summary}
use Rattle.grammar.specs.Text.{ascii}
use Rattle.listing.specs.Listing.{lined}
use Rattle.names.specs.Put.{Put}
use Rattle.names.proofs.Putting.{put_then}
use Rattle.screens.specs.Screens.{rows_text, under_text, type_text}

-- A wrong definition is refused first by the sample that it breaks, so the samples stand before the laws.

-- ---- counts
-- A text, a comma and a space, and another text, put one after the other.
pub put_comma : {l x a b y c : List ℕ} {at i j k : ℕ} → Put l at x a i → Put a i (ascii ", ") b j → Put b j y c k → Put l at (x ++ ascii ", " ++ y) c k
put_comma p q r = put_then (put_then p q) r

-- ---- a type
module _ (s : Summary) (above : ℕ) where
  -- A root type stands under none.
  pub root_line : s.level ≡ 1 → lined (rows_text s) ≡ type_text s above
  unfolding type_text
  root_line e = rw (eq-eqb s.level 1 e, type_text) (ap lined (sym (append-nil (rows_text s))))

  -- Any other stands under the type above.
  pub lower_line : (s.level ≡ 1 → ⊥) → lined (rows_text s ++ under_text s.least s.greatest above) ≡ type_text s above
  unfolding type_text
  lower_line e = rw (ne_eqb s.level 1 e, type_text) refl
