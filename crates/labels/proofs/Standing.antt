-- The labels of a record one by one, and those of a file and of two. Assumes nothing.
use Prim.Native.Nat.{ℕ, suc, ◌<◌}
use native.Mathlib.Omega.{arith}
use mathlib.Core.Path.{◌≡◌, refl, sym, ◌∙◌, ap, ap₂}
use mathlib.Core.Bool.{Bool, true, false, ◌||◌}
use mathlib.Core.List.{List, [], ◌∷◌, ◌++◌}
use lib.Dec.{eqb}
use lib.ListN.{get_or, drop}
use lib.Seq.{drop-cons}
use Rattle.paper.specs.Lists.{any, join_map}
use Rattle.paper.specs.Format.{Format, head_bytes, row_bytes, entry_bytes, words, whole}
use Rattle.paper.specs.Labels.{label_at}
use Rattle.paper.proofs.Tables.{length-words}
use Rattle.labels.specs.Records.{file_labels, standing}

-- each label from its place on
pub next_word : (n : ℕ) (r : List ℕ) (i k : ℕ) → k < n → drop k (words n r i) ≡ get_or (words n r i) k 0 ∷ drop (suc k) (words n r i)
next_word n r i k lt = drop-cons (words n r i) k 0 (omega (arith, length-words n r i))

-- ---- one that passes a test, in lists one after the other
module _ {A : Type 0} (p : A → Bool) where
  pub any_append : (xs ys : List A) → any p (xs ++ ys) ≡ any p xs || any p ys
  any_append [] ys = refl
  any_append (x ∷ xs) ys = at (p x) (any p xs) (any p ys) (any p (xs ++ ys)) (any_append xs ys)
    where
      at : (a b c d : Bool) → d ≡ b || c → a || d ≡ (a || b) || c
      at true b c d e = refl
      at false b c d e = e

  pub any_join : {B : Type 0} (h : B → List A) (ys : List B) → any p (join_map h ys) ≡ any (λ (y : B). any p (h y)) ys
  any_join h [] = refl
  any_join h (y ∷ ys) = any_append (h y) (join_map h ys) ∙ ap (λ b. any p (h y) || b) (any_join h ys)

-- ---- in the table, or in the shape
module _ (f : Format) (b s : List ℕ) (x : ℕ) (w n : ℕ) (ew : w ≡ row_bytes f) (en : n ≡ whole (row_bytes f) b) where
  abbrev found : List ℕ → Bool
  found = any (eqb x)

  abbrev table-labels : List ℕ
  table-labels = file_labels (row_bytes f) (whole (row_bytes f) b) label_at 1 b

  abbrev shape-labels : List ℕ
  shape-labels = file_labels (entry_bytes f) (whole (entry_bytes f) s) head_bytes f.levels s

  either : found (standing f b s) ≡ found table-labels || found shape-labels
  unfolding standing
  either = any_append (eqb x) table-labels shape-labels

  as_counted : found (file_labels w n label_at 1 b) ≡ found table-labels
  as_counted = ap₂ (λ v k. found (file_labels v k label_at 1 b)) ew en

  pub in_table : found (file_labels w n label_at 1 b) ≡ true → true ≡ found (standing f b s)
  in_table e = sym (either ∙ ap (λ t. t || found shape-labels) (sym as_counted ∙ e))

  pub in_shape : found (file_labels w n label_at 1 b) ≡ false → (v m : ℕ) → v ≡ entry_bytes f → m ≡ whole (entry_bytes f) s
      → (said : Bool) → said ≡ found (file_labels v m head_bytes f.levels s) → said ≡ found (standing f b s)
  in_shape e v m ev em said is =
      is ∙ ap₂ (λ a k. found (file_labels a k head_bytes f.levels s)) ev em ∙ sym (either ∙ ap (λ t. t || found shape-labels) (sym as_counted ∙ e))
