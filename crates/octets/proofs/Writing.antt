-- What is written and what is still to be written. Assumes nothing.
use Prim.Native.Nat.{ℕ, suc, ◌+◌, ◌*◌, ◌≤◌, ◌<◌}
use native.Mathlib.Nat.{add-zero, not-suc-le-zero, le_of_suc-le-suc}
use native.Mathlib.Numerals.{add-one}
use native.Mathlib.Omega.{arith}
use mathlib.Core.Path.{◌≡◌, refl, sym, ◌∙◌, ap}
use mathlib.Core.List.{List, [], ◌∷◌, ◌++◌}
use lib.ListN.{length, get_or, drop, set, drop_of_length-le}
use lib.Seq.{sets, sets-eq, length-sets, drop-cons, set-set, set_comm}
use Rattle.paper.specs.Lists.{join_map}
use Rattle.paper.specs.Format.{bytes}

-- Values written one list after the other are written as one list.
sets_append : (a b l : List ℕ) (i : ℕ) → sets l i (a ++ b) ≡ sets (sets l i a) (i + length a) b
sets_append [] b l i = rw add-zero
sets_append (x ∷ a) b l i = sets_append a b (set l i x) (suc i) ∙ ap (λ n. sets (sets (set l i x) (suc i) a) n b) (omega arith)

-- What is written from the first place on stands at the front, and the rest stays.
pub front_written : (l vs : List ℕ) → length vs ≤ length l → sets l 0 vs ≡ vs ++ drop (length vs) l
front_written l vs le = let e : 0 + length vs ≡ length vs = omega arith in sets-eq vs l 0 (omega arith) ∙ ap (λ n. [] ++ vs ++ drop n l) e

-- What is still to be written (`rest` from place i on) brings the list to what is asked (`vs` from place `at` on).
pub record Writing (l₀ : List ℕ) (at : ℕ) (vs l : List ℕ) (i : ℕ) (rest : List ℕ) : Type 0 where
  pub asked : sets l i rest ≡ sets l₀ at vs
  pub as_long : length l ≡ length l₀

-- At first all of it is to be written.
pub all_left : (l : List ℕ) (at : ℕ) (vs : List ℕ) (i : ℕ) → i ≡ at → Writing l at vs l i vs
all_left l at vs i e = record { asked = ap (λ n. sets l n vs) e; as_long = refl }

module _ {l₀ : List ℕ} {at : ℕ} {vs l : List ℕ} {i : ℕ} {rest : List ℕ} (w : Writing l₀ at vs l i rest) where
  -- The first part of it is written.
  pub part_written : (a b : List ℕ) → rest ≡ a ++ b → (l' : List ℕ) → l' ≡ sets l i a → (j : ℕ) → j ≡ i + length a → Writing l₀ at vs l' j b
  part_written a b e l' el j ej = record {
    asked = rw (el, ej) (sym (sets_append a b l i) ∙ ap (sets l i) (sym e) ∙ w.asked);
    as_long = ap length el ∙ length-sets l i a ∙ w.as_long;
  }

  -- Nothing of it is left.
  pub all_written : rest ≡ [] → l ≡ sets l₀ at vs
  all_written e = ap (sets l i) (sym e) ∙ w.asked

-- Two bytes are written.
pub two_written : (l : List ℕ) (at i a b x y : ℕ) → i ≡ at + 1 → a ≡ x → b ≡ y → set (set l at a) i b ≡ sets l at (x ∷ y ∷ [])
two_written l at i a b x y ei ea eb = rw (ei, ea, eb, add-one at) refl

-- ---- place after place
-- The list from place k on is its element there and the list from the next place on.
drop_next : (l : List ℕ) (k : ℕ) → k < length l → drop k l ≡ get_or l k 0 ∷ drop (k + 1) l
drop_next l k lt = rw (add-one k) (drop-cons l k 0 lt)

module _ {l₀ : List ℕ} {at : ℕ} {l : List ℕ} (k : ℕ) where
  -- The next byte is written.
  pub byte_written : (vs : List ℕ) → Writing l₀ at vs l (at + k) (drop k vs) → k < length vs
      → Writing l₀ at vs (set l (at + k) (get_or vs k 0)) (at + (k + 1)) (drop (k + 1) vs)
  byte_written vs w lt =
      part_written w (get_or vs k 0 ∷ []) (drop (k + 1) vs) (drop_next vs k lt) (set l (at + k) (get_or vs k 0)) refl (at + (k + 1)) (omega arith)

  -- The next number is written.
  pub number_written : (xs : List ℕ) → Writing l₀ at (join_map (bytes 2) xs) l (at + 2 * k) (join_map (bytes 2) (drop k xs))
      → k < length xs → (l' : List ℕ) → l' ≡ sets l (at + 2 * k) (bytes 2 (get_or xs k 0))
      → Writing l₀ at (join_map (bytes 2) xs) l' (at + 2 * (k + 1)) (join_map (bytes 2) (drop (k + 1) xs))
  number_written xs w lt l' e =
      part_written w (bytes 2 (get_or xs k 0)) (join_map (bytes 2) (drop (k + 1) xs)) (ap (join_map (bytes 2)) (drop_next xs k lt)) l' e
      (at + 2 * (k + 1)) (omega arith)

-- Past the last number nothing is left.
pub numbers_end : (xs : List ℕ) (k : ℕ) → length xs ≤ k → join_map (bytes 2) (drop k xs) ≡ []
numbers_end xs k le = ap (join_map (bytes 2)) (drop_of_length-le xs {i = k} le)

-- ---- written over
-- A byte before those that are written may as well be written first.
pub set_first : (vs l : List ℕ) (i j v : ℕ) → i < j → set (sets l j vs) i v ≡ sets (set l i v) j vs
set_first [] l i j v lt = refl
set_first (x ∷ vs) l i j v lt =
    set_first vs (set l j x) i (suc j) v (omega arith) ∙ ap (λ m. sets m (suc j) vs) (set_comm l j i x v (λ e. let b : ⊥ = omega arith in b))

-- Of values that no fewer are written over nothing is left.
pub sets_over : (b v l : List ℕ) (i : ℕ) → length b ≤ length v → sets (sets l i b) i v ≡ sets l i v
sets_over [] v l i le = refl
sets_over (x ∷ b) [] l i le = absurd (not-suc-le-zero le)
sets_over (x ∷ b) (y ∷ v) l i le =
    ap (λ m. sets m (suc i) v) (set_first b (set l i x) i (suc i) y (omega arith) ∙ ap (λ m. sets m (suc i) b) (set-set l i x y))
    ∙ sets_over b v (set l i y) (suc i) (le_of_suc-le-suc le)

-- So of the last part of what is written.
pub last_over : (a b v l : List ℕ) (i : ℕ) → length b ≤ length v → sets (sets l i (a ++ b)) (i + length a) v ≡ sets l i (a ++ v)
last_over a b v l i le =
    ap (λ m. sets m (i + length a) v) (sets_append a b l i) ∙ sets_over b v (sets l i a) (i + length a) le ∙ sym (sets_append a v l i)
