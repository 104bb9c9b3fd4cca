-- The rows of a table one by one, and the walk that looks for the first that breaks a rule. Assumes nothing.
use Prim.Native.Nat.{ℕ, zero, suc, ◌+◌, ◌*◌, ◌-◌, ◌≤◌, ◌<◌}
use native.Mathlib.Nat.{mul-div-le, mul-zero, mul-suc, not-suc-le-zero, le_of_suc-le-suc}
use native.Mathlib.Numerals.{add-one}
use native.Mathlib.Omega.{arith}
use mathlib.Core.Path.{◌≡◌, refl, sym, ◌∙◌, ap, subst}
use mathlib.Core.Bool.{true, false, ◌&&◌}
use mathlib.Core.List.{List, [], ◌∷◌, map}
use mathlib.Core.Option.{Option, none, some}
use lib.Dec.{eqb}
use lib.ListN.{length, take, drop, get_or, drop_of_length-le}
use lib.Seq.{drop-drop}
use borrow.Author.Tests.{lt-ltb, le-ltb}
use Rattle.paper.specs.Lists.{first_break}
use Rattle.paper.specs.Format.{Format, row_bytes, byte, words, records, whole}
use Rattle.paper.specs.Tables.{Row, row_of, rows, dewey, fields_kept, follows, row_kept, bad_row}
use Rattle.paper.proofs.Calls.{count-rows}
use Rattle.paper.proofs.Lists.{both}
use Rattle.tables.specs.Place.{place_of}
use Rattle.octets.proofs.Laws.{record_in}
use Rattle.tables.proofs.Laws.{and_left, fields_level, dewey-length, dewey-at}
use Rattle.tables.proofs.Follows.{longer_apart, child_decides}

-- record i of w bytes
abbrev pub rec : ℕ → ℕ → List ℕ → List ℕ
rec w i t = take w (drop (w * i) t)

-- what the records give from record i on
pub drop-records : {A : Type 0} (g : List ℕ → A) (w n : ℕ) (t : List ℕ) (i : ℕ) → i < n
    → drop i (map g (records w n t)) ≡ g (rec w i t) ∷ drop (suc i) (map g (records w n t))
drop-records g w zero t i lt = absurd (not-suc-le-zero lt)
drop-records {A} g w (suc n) t zero lt = ap {B = List A} (λ k. g (take w (drop k t)) ∷ map g (records w n (drop w t))) (sym (mul-zero w))
drop-records {A} g w (suc n) t (suc i) lt =
    drop-records g w n (drop w t) i (le_of_suc-le-suc lt)
    ∙ ap {B = List A} (λ l. g (take w l) ∷ drop (suc i) (map g (records w n (drop w t)))) (drop-drop (w * i) w t ∙ ap (λ k. drop k t) (at i))
  where
    at : (i : ℕ) → w + w * i ≡ w * suc i
    at i = omega (arith, mul-suc w i)

pub rows_from_lem : (f : Format) (t : List ℕ) (i : ℕ) → i < whole (row_bytes f) t → drop i (rows f t) ≡ row_of f (rec (row_bytes f) i t) ∷ drop (suc i) (rows f t)
unfolding rows
rows_from_lem f t i lt = drop-records (row_of f) (row_bytes f) (whole (row_bytes f) t) t i lt

pub rows_end : (f : Format) (t : List ℕ) (i : ℕ) → whole (row_bytes f) t ≤ i → drop i (rows f t) ≡ []
rows_end f t i le = drop_of_length-le (rows f t) {i = i} (omega (arith, count-rows f t))

-- ---- one row after another
pub kept_fields : (f : Format) (p : List ℕ) (r : Row) → fields_kept f r ≡ false → row_kept f p r ≡ false
unfolding row_kept
kept_fields f p r e = and_left (follows p (dewey r)) e

pub kept_follows : (f : Format) (p : List ℕ) (r : Row) → fields_kept f r ≡ true → row_kept f p r ≡ follows p (dewey r)
unfolding row_kept
kept_follows f p r e = ap (λ b. b && follows p (dewey r)) e

pub kept_level : (f : Format) (p b : List ℕ) → row_kept f p (row_of f b) ≡ true → (1 ≤ byte b 0) × (byte b 0 ≤ f.levels)
unfolding row_kept
kept_level f p b e = fields_level f b (both (fields_kept f (row_of f b)) (follows p (dewey (row_of f b))) e).0

-- ---- the walk: rows before i keep the rules, and from i on the first break is the table's
abbrev pub Search : Format → List ℕ → ℕ → Type 0
Search f t i =
    (1 ≤ i) × (i ≤ whole (row_bytes f) t) × (byte (rec (row_bytes f) (i - 1) t) 0 ≤ f.levels)
    × (first_break (row_kept f) dewey i (dewey (row_of f (rec (row_bytes f) (i - 1) t))) (drop i (rows f t)) ≡ bad_row f (rows f t))

module _ (f : Format) (t : List ℕ) where
  step-true : (p : List ℕ) (i : ℕ) (r : Row) (rs : List Row) → row_kept f p r ≡ true
      → first_break (row_kept f) dewey i p (r ∷ rs) ≡ first_break (row_kept f) dewey (suc i) (dewey r) rs
  step-true p i r rs e = rw (e, first_break) refl

  step-false : (p : List ℕ) (i : ℕ) (r : Row) (rs : List Row) → row_kept f p r ≡ false → first_break (row_kept f) dewey i p (r ∷ rs) ≡ some i
  step-false p i r rs e = rw (e, first_break) refl

  from_zero : bad_row f (rows f t) ≡ first_break (row_kept f) dewey 0 [] (drop 0 (rows f t))
  unfolding bad_row
  from_zero = refl

  pub none_at_all : whole (row_bytes f) t ≡ 0 → bad_row f (rows f t) ≡ none
  none_at_all e = from_zero ∙ ap (first_break (row_kept f) dewey 0 []) (rows_end f t 0 (omega arith))

  pub first_breaks : 0 < whole (row_bytes f) t → row_kept f [] (row_of f (rec (row_bytes f) 0 t)) ≡ false → bad_row f (rows f t) ≡ some 0
  first_breaks lt e =
      from_zero ∙ ap (first_break (row_kept f) dewey 0 []) (rows_from_lem f t 0 lt) ∙ step-false [] 0 (row_of f (rec (row_bytes f) 0 t)) (drop 1 (rows f t)) e

  pub search_start : 0 < whole (row_bytes f) t → row_kept f [] (row_of f (rec (row_bytes f) 0 t)) ≡ true → Search f t 1
  search_start lt e = (
    omega arith,
    omega arith,
    (kept_level f [] (rec (row_bytes f) 0 t) e).1,
    sym (from_zero ∙ ap (first_break (row_kept f) dewey 0 []) (rows_from_lem f t 0 lt) ∙ step-true [] 0 (row_of f (rec (row_bytes f) 0 t)) (drop 1 (rows f t)) e),
  )

  module _ (i : ℕ) (s : Search f t i) where
    before : List ℕ
    before = dewey (row_of f (rec (row_bytes f) (i - 1) t))

    unrolled : i < whole (row_bytes f) t
        → first_break (row_kept f) dewey i before (row_of f (rec (row_bytes f) i t) ∷ drop (suc i) (rows f t)) ≡ bad_row f (rows f t)
    unfolding before
    unrolled lt = ap (first_break (row_kept f) dewey i before) (sym (rows_from_lem f t i lt)) ∙ s.3

    pub search_stop : i < whole (row_bytes f) t → row_kept f (dewey (row_of f (rec (row_bytes f) (i - 1) t))) (row_of f (rec (row_bytes f) i t)) ≡ false
        → bad_row f (rows f t) ≡ some i
    unfolding before
    search_stop lt e = sym (unrolled lt) ∙ step-false before i (row_of f (rec (row_bytes f) i t)) (drop (suc i) (rows f t)) e

    pub search_step : i < whole (row_bytes f) t → row_kept f (dewey (row_of f (rec (row_bytes f) (i - 1) t))) (row_of f (rec (row_bytes f) i t)) ≡ true
        → Search f t (i + 1)
    unfolding before
    search_step lt e =
        let j : i + 1 - 1 ≡ i = omega arith in (
          omega arith,
          omega arith,
          subst (λ k. byte (rec (row_bytes f) k t) 0 ≤ f.levels) (sym j) (kept_level f before (rec (row_bytes f) i t) e).1,
          subst (λ k. first_break (row_kept f) dewey (i + 1) (dewey (row_of f (rec (row_bytes f) k t))) (drop (i + 1) (rows f t)) ≡ bad_row f (rows f t)) (sym j)
              (ap (λ n. first_break (row_kept f) dewey n (dewey (row_of f (rec (row_bytes f) i t))) (drop n (rows f t))) (add-one i)
              ∙ sym (step-true before i (row_of f (rec (row_bytes f) i t)) (drop (suc i) (rows f t)) e) ∙ unrolled lt),
        )

    pub search_end : whole (row_bytes f) t ≤ i → bad_row f (rows f t) ≡ none
    unfolding before
    search_end le = sym s.3 ∙ ap (first_break (row_kept f) dewey i before) (rows_end f t i le)

pub some-place : (o : Option ℕ) (r n : ℕ) → r < n → o ≡ some r → o ≡ place_of r n
unfolding place_of
some-place o r n lt e = e ∙ rw (lt-ltb r n lt, place_of) refl

pub none-place : (o : Option ℕ) (n : ℕ) → o ≡ none → o ≡ place_of n n
unfolding place_of
none-place o n e = e ∙ rw (le-ltb n n (omega arith), place_of) refl

-- a row below the count lies within the table
pub row_in : (w i : ℕ) (t : List ℕ) → i < whole w t → w * i + w ≤ length t
row_in w i t lt = record_in w i (whole w t) (length t) lt (mul-div-le (length t) w)

-- ---- the first row
pub first-deep : (f : Format) (b : List ℕ) → fields_kept f (row_of f b) ≡ true → (byte b 0 ≡ 1 → ⊥) → row_kept f [] (row_of f b) ≡ false
first-deep f b k ne =
    let (lo, hi) = fields_level f b k in
    kept_follows f [] (row_of f b) k ∙ longer_apart [] (dewey (row_of f b)) (omega (arith, dewey-length f b hi))

pub first_decides : (f : Format) (b : List ℕ) → fields_kept f (row_of f b) ≡ true → byte b 0 ≡ 1 → (v : ℕ) → v ≡ get_or (words f.levels b 4) 0 0
    → eqb v 1 ≡ row_kept f [] (row_of f b)
first_decides f b k e v ev =
    let (lo, hi) = fields_level f b k in
    ap (λ z. eqb z 1) (ev ∙ sym (dewey-at f b hi 0 (omega arith)))
    ∙ sym (kept_follows f [] (row_of f b) k ∙ child_decides [] (dewey (row_of f b)) (omega (arith, dewey-length f b hi)) (omega arith))
