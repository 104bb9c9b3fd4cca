-- A widened table keeps the row rules exactly where the table does, and its nodes are the same. Assumes nothing.
use Prim.Native.Nat.{ℕ, zero, suc, ◌+◌, ◌-◌, ◌*◌, ◌%◌, ◌≤◌, ◌<◌}
use native.Mathlib.Nat.{mul-lt-mul_of_pos_right, lt_of_mul-lt-mul_right, not-suc-le-zero}
use native.Mathlib.Omega.{arith}
use mathlib.Core.Path.{◌≡◌, refl, sym, ◌∙◌, ap, ap₂, subst}
use mathlib.Core.Logic.{◌⊎◌, inl, inr, ⊎_elim}
use mathlib.Core.Bool.{Bool, true, false, ◌&&◌, not, false≢true}
use mathlib.Core.List.{List, [], ◌∷◌, ◌++◌, map, map-map}
use mathlib.Core.Option.{Option, none, some}
use lib.Dec.{eqb, leb, ltb}
use lib.ListN.{length, take, drop, replicate, length-append, length-take, length-map, length-replicate}
use lib.Seq.{take-append-le, drop-append-le, take-append-add}
use borrow.Author.Tests.{leb-true, leb-false, le-leb, ltb-true, lt-ltb, eq-eqb, ne_eqb}
use Rattle.paper.specs.Lists.{Has, all, last_or, between, first_break, same}
use Rattle.paper.specs.Format.{Format, most_rows, row_bytes, whole}
use Rattle.paper.specs.Tables.{Row, rows, dewey, fields_kept, raised, follows, row_kept, bad_row, type_number}
use Rattle.paper.specs.Closeness.{nodes_from, nodes}
use Rattle.paper.specs.Calls.{Answer, refused, given, ◌>>=◌, refuse, refuse_at, reply, tests1_3, examine}
use Rattle.paper.specs.Widths.{deeper, table_to, row_to}
use Rattle.paper.proofs.Lists.{both, either, same_eq, last_append, last_snoc, map_same}
use Rattle.paper.proofs.Tables.{none-rules, rules-each, Laid, rows_laid, fields_level}
use Rattle.paper.proofs.Bytes.{whole_length}
use Rattle.paper.proofs.Calls.{passed1_3}
use Rattle.keeping.proofs.Moved.{wide-size, length_moved, whole-moved}
use Rattle.keeping.proofs.Widened.{rows_widened, same-row-types, same-types}

-- ---- tests
pub test_same : (x y : Bool) → (x ≡ true → y ≡ true) → (y ≡ true → x ≡ true) → x ≡ y
test_same true y there back = sym (there refl)
test_same false true there back = back refl
test_same false false there back = refl

-- as many records of one size are over a limit as of another
over : (m k w : ℕ) → 0 < w → ltb (m * w) (k * w) ≡ ltb m k
over m k w pos =
    test_same (ltb (m * w) (k * w)) (ltb m k) (λ e. lt-ltb m k (lt_of_mul-lt-mul_right w (ltb-true (m * w) (k * w) e)))
    (λ e. lt-ltb (m * w) (k * w) (mul-lt-mul_of_pos_right (ltb-true m k e) pos))

pub over-same : (m k w v : ℕ) → 0 < w → 0 < v → ltb (m * v) (k * v) ≡ ltb (m * w) (k * w)
over-same m k w v pw pv = over m k v pv ∙ sym (over m k w pw)

-- Rules that say the same of what each element becomes, and elements that leave the same, are broken first at the same place.
pub break_same : {A B : Type 0} (rule rule' : B → A → Bool) (leaves : A → B) (to : A → A) (i : ℕ) (b : B) (xs : List A)
    → ((x : A) → Has x xs → (b : B) → (rule' b (to x) ≡ rule b x) × (rule b x ≡ true → leaves (to x) ≡ leaves x))
    → first_break rule' leaves i b (map to xs) ≡ first_break rule leaves i b xs
break_same rule rule' leaves to i b [] each = refl
break_same rule rule' leaves to i b (x ∷ xs) each =
    ap (λ t. elim t as (λ _. Option ℕ) [ true ↦ first_break rule' leaves (suc i) (leaves (to x)) (map to xs) | false ↦ some i ]) (each x (inl refl) b).0
    ∙ go (rule b x) refl (break_same rule rule' leaves to (suc i) (leaves x) xs (λ y h. each y (inr h)))
  where
    go : (t : Bool) → rule b x ≡ t → first_break rule' leaves (suc i) (leaves x) (map to xs) ≡ first_break rule leaves (suc i) (leaves x) xs
        → ◌≡◌ {A = Option ℕ} (elim t [ true ↦ first_break rule' leaves (suc i) (leaves (to x)) (map to xs) | false ↦ some i ])
        (elim t [ true ↦ first_break rule leaves (suc i) (leaves x) xs | false ↦ some i ])
    go true e ih = ap (λ z. first_break rule' leaves (suc i) z (map to xs)) ((each x (inl refl) b).1 e) ∙ ih
    go false e ih = refl

-- ---- zeros at the end
pub all-zeros : (n : ℕ) (l : List ℕ) → all (eqb 0) (l ++ replicate n 0) ≡ all (eqb 0) l
all-zeros zero [] = refl
all-zeros (suc n) [] = all-zeros n []
all-zeros n (x ∷ l) = ap (λ t. eqb 0 x && t) (all-zeros n l)

last_zeros : (k m : ℕ) → ◌≡◌ {A = ℕ} (last_or 0 (take k (replicate m 0))) 0
last_zeros zero m = refl
last_zeros (suc k) zero = refl
last_zeros (suc k) (suc m) = last_zeros k m

-- a list cut past its length, among the zeros behind it, ends in one
zero_last : (l : List ℕ) (k n : ℕ) → k < n → last_or 0 (take (length l + suc k) (l ++ replicate n 0)) ≡ 0
zero_last l k zero lt = absurd (not-suc-le-zero lt)
zero_last l k (suc n) lt =
    ap (last_or 0) (take-append-add l (replicate (suc n) 0) (suc k)) ∙ last_append 0 l (take (suc k) (replicate (suc n) 0)) ∙ last_zeros k n

-- No number that follows another ends in a 0.
raised_last : (d : ℕ) (l : List ℕ) → 0 < length (raised l) → 0 < last_or d (raised l)
raised_last d [] pos = absurd (not-suc-le-zero pos)
raised_last d (x ∷ []) pos = omega arith
raised_last d (x ∷ y ∷ []) pos = omega arith
raised_last d (x ∷ y ∷ z ∷ l) pos = raised_last x (y ∷ z ∷ l) (omega arith)

follows_last : (p d : List ℕ) → 0 < length d → follows p d ≡ true → 0 < last_or 0 d
unfolding follows
follows_last p d pos h =
    ⊎_elim (λ a. omega (arith, ap (last_or 0) (same_eq d (p ++ (1 ∷ [])) a), last_snoc 0 p 1))
    (λ a. let e = same_eq d (raised (take (length d) p)) a in
    subst (λ z. 0 < last_or 0 z) (sym e) (raised_last 0 (take (length d) p) (subst (λ z. 0 < length z) e pos)))
    (either (same d (p ++ (1 ∷ []))) (same d (raised (take (length d) p))) h)

-- ---- one row
module _ (f : Format) (n : ℕ) (r : Row) (laid : length r.components ≡ f.levels) where
  abbrev g : Format
  g = deeper f n

  dewey-same : r.level ≤ f.levels → dewey (row_to n r) ≡ dewey r
  dewey-same le = take-append-le r.level r.components (replicate n 0) (omega arith)

  fields_same : r.level ≤ f.levels → fields_kept g (row_to n r) ≡ fields_kept f r
  unfolding fields_kept
  fields_same le =
      ap₂ (λ x y. leb 1 r.level && x && eqb r.spare 0 && between 1 r.label f.labels && y)
      (le-leb r.level (f.levels + n) (omega arith) ∙ sym (le-leb r.level f.levels le))
      (ap (all (eqb 0)) (drop-append-le r.level r.components (replicate n 0) (omega arith)) ∙ all-zeros n (drop r.level r.components))

  within_same : (p : List ℕ) → r.level ≤ f.levels → row_kept g p (row_to n r) ≡ row_kept f p r
  unfolding row_kept
  within_same p le = ap₂ (λ x y. x && follows p y) (fields_same le) (dewey-same le)

  -- a widened row on one of the further levels has a Dewey number that ends in a 0
  kept_within : (p : List ℕ) → row_kept g p (row_to n r) ≡ true → r.level ≤ f.levels
  unfolding row_kept
  kept_within p h = go (leb r.level f.levels) refl
    where
      go : (t : Bool) → leb r.level f.levels ≡ t → r.level ≤ f.levels
      go true e = leb-true r.level f.levels e
      go false e =
          let past = leb-false r.level f.levels e in
          let (fields, next) = both (fields_kept g (row_to n r)) (follows p (dewey (row_to n r))) h in
          let (lo, hi) = fields_level g (row_to n r) fields in
          let k = r.level - suc f.levels in
          let at : r.level ≡ length r.components + suc k = omega arith in
          let ends : last_or 0 (dewey (row_to n r)) ≡ 0 =
          ap (λ m. last_or 0 (take m (r.components ++ replicate n 0))) at ∙ zero_last r.components k n (omega arith) in
          let long = length-append r.components (replicate n 0) in
          let some : 0 < length (dewey (row_to n r)) =
          omega (arith, length-take r.level (r.components ++ replicate n 0), length-replicate {A = ℕ} n 0) in
          let z : ⊥ = omega (arith, follows_last p (dewey (row_to n r)) some next) in
          absurd z

  own_within : (p : List ℕ) → row_kept f p r ≡ true → r.level ≤ f.levels
  unfolding row_kept
  own_within p h = (fields_level f r (both (fields_kept f r) (follows p (dewey r)) h).0).1

  -- A widened row keeps the rules exactly where the row does.
  row_same : (p : List ℕ) → (row_kept g p (row_to n r) ≡ row_kept f p r) × (row_kept f p r ≡ true → dewey (row_to n r) ≡ dewey r)
  row_same p = (
    test_same (row_kept g p (row_to n r)) (row_kept f p r) (λ h. sym (within_same p (kept_within p h)) ∙ h) (λ h. within_same p (own_within p h) ∙ h),
    λ h. dewey-same (own_within p h),
  )

-- ---- a table's rows
laid_each : (f : Format) (rs : List Row) → Laid f rs → (r : Row) → Has r rs → length r.components ≡ f.levels
laid_each f [] l r h = absurd h
laid_each f (x ∷ rs) l r (inl e) = ap (λ (r : Row). length r.components) e ∙ l.0
laid_each f (x ∷ rs) l r (inr h) = laid_each f rs l.1 r h

-- in a sound table no row is deeper than the format
pub sound-level : (f : Format) (rs : List Row) → bad_row f rs ≡ none → (r : Row) → Has r rs → r.level ≤ f.levels
unfolding bad_row row_kept
sound-level f rs sound r h =
    let (p, k) = rules-each (row_kept f) dewey [] rs (none-rules (row_kept f) dewey 0 [] rs sound) r h in
    (fields_level f r (both (fields_kept f r) (follows p (dewey r)) k).0).1

module _ (f : Format) (n : ℕ) (rs : List Row) (laid : Laid f rs) where
  -- the first row that breaks a rule is the same
  pub bad_row_same : bad_row (deeper f n) (map (row_to n) rs) ≡ bad_row f rs
  unfolding bad_row
  bad_row_same = break_same (row_kept f) (row_kept (deeper f n)) dewey (row_to n) 0 [] rs (λ r h. row_same f n r (laid_each f rs laid r h))

  pub nodes-same : bad_row f rs ≡ none → nodes (map (row_to n) rs) ≡ nodes rs
  unfolding nodes
  nodes-same sound =
      ap₂ (nodes_from 0) (ap₂ (λ ts ks. map (type_number ts) ks) (same-types n rs) (same-row-types n rs))
      (map-map dewey (row_to n) rs
      ∙ map_same (λ r. dewey (row_to n r)) dewey rs (λ r h. dewey-same f n r (laid_each f rs laid r h) (sound-level f rs sound r h)))

-- ---- a widened table
module _ (f : Format) (n : ℕ) (b : List ℕ) where
  abbrev wide : List ℕ
  wide = table_to f (deeper f n) b

  abbrev w : ℕ
  w = row_bytes f

  abbrev v : ℕ
  v = row_bytes (deeper f n)

  pub wide-length : length wide ≡ whole w b * v
  wide-length = length_moved f (deeper f n) w v (omega arith) (wide-size f n w v (omega arith) (omega arith)) b

  pub wide-whole : length wide % v ≡ 0
  wide-whole = whole-moved f (deeper f n) w v (omega arith) (wide-size f n w v (omega arith) (omega arith)) b

  bad_row_widened : bad_row (deeper f n) (rows (deeper f n) wide) ≡ bad_row f (rows f b)
  bad_row_widened = ap (bad_row (deeper f n)) (rows_widened f n b) ∙ bad_row_same f n (rows f b) (rows_laid f b)

  -- A table of whole records and its widening are refused alike, and given with the same rows, widened.
  pub tests1_3_widened : length b % w ≡ 0 → tests1_3 (deeper f n) wide ≡ (tests1_3 f b >>= (λ rs. given (map (row_to n) rs)))
  unfolding tests1_3
  tests1_3_widened e =
      let long : ltb (most_rows * v) (length wide) ≡ ltb (most_rows * w) (length b) =
      ap (ltb (most_rows * v)) wide-length ∙ over-same most_rows (whole w b) w v (omega arith) (omega arith) ∙ ap (ltb (most_rows * w)) (whole_length w b e) in
      let even : eqb (length wide % v) 0 ≡ eqb (length b % w) 0 = eq-eqb (length wide % v) 0 wide-whole ∙ sym (eq-eqb (length b % w) 0 e) in
      ap₂ (λ x y. tested x y (bad_row (deeper f n) (rows (deeper f n) wide)) (rows (deeper f n) wide)) long even
      ∙ ap₂ (tested (ltb (most_rows * w) (length b)) (eqb (length b % w) 0)) bad_row_widened (rows_widened f n b)
      ∙ through (ltb (most_rows * w) (length b)) (eqb (length b % w) 0) (bad_row f (rows f b)) (rows f b)
    where
      tested : Bool → Bool → Option ℕ → List Row → Answer (List Row)
      tested long even bad rs = refuse 1 long >>= (λ _. refuse 2 (not even) >>= (λ _. refuse_at 3 bad >>= (λ _. given rs)))

      through : (long even : Bool) (bad : Option ℕ) (rs : List Row)
          → tested long even bad (map (row_to n) rs) ≡ (tested long even bad rs >>= (λ rs. given (map (row_to n) rs)))
      through true even bad rs = refl
      through false false bad rs = refl
      through false true none rs = refl
      through false true (some p) rs = refl

  -- A WIDENED TABLE IS EXAMINED as the table is, where it is one of whole records: accepted exactly when it is, with the same count, and refused
  -- with the same number and place.
  pub examine_widened : length b % w ≡ 0 → examine (deeper f n) wide ≡ examine f b
  unfolding examine
  examine_widened e = ap (λ a. reply 0 (a >>= (λ rs. given (length rs)))) (tests1_3_widened e) ∙ counted (tests1_3 f b)
    where
      counted : (a : Answer (List Row))
          → reply 0 ((a >>= (λ rs. given (map (row_to n) rs))) >>= (λ rs. given (length rs))) ≡ reply 0 (a >>= (λ rs. given (length rs)))
      counted (refused k p) = refl
      counted (given rs) = ap (λ k. reply 0 (given k)) (length-map rs (row_to n))

  -- A table that is cut off within a record is refused with 1 or 2. Its widening is one of whole records only, which no 2 refuses.
  pub cut_off_table : (length b % w ≡ 0 → ⊥) → ((examine f b).number ≡ 1) ⊎ ((examine f b).number ≡ 2)
  unfolding examine tests1_3
  cut_off_table cut = go (ltb (most_rows * w) (length b)) (eqb (length b % w) 0) (ne_eqb (length b % w) 0 cut)
    where
      go : (long even : Bool) → even ≡ false
          → let a = refuse 1 long >>= (λ _. refuse 2 (not even) >>= (λ _. refuse_at 3 (bad_row f (rows f b)) >>= (λ _. given (rows f b)))) in
          let number = (reply 0 (a >>= (λ rs. given (length rs)))).number in (number ≡ 1) ⊎ (number ≡ 2)
      go true even q = inl refl
      go false false q = inr refl
      go false true q = absurd (false≢true (sym q))

  pub widened_not_cut_off : (examine (deeper f n) wide).number ≡ 2 → ⊥
  unfolding examine tests1_3
  widened_not_cut_off =
      go (ltb (most_rows * v) (length wide)) (eqb (length wide % v) 0) (bad_row (deeper f n) (rows (deeper f n) wide)) (eq-eqb (length wide % v) 0 wide-whole)
    where
      go : (long even : Bool) (bad : Option ℕ) → even ≡ true
          → let rs = rows (deeper f n) wide in
          let a = refuse 1 long >>= (λ _. refuse 2 (not even) >>= (λ _. refuse_at 3 bad >>= (λ _. given rs))) in
          (reply 0 (a >>= (λ rs. given (length rs)))).number ≡ 2 → ⊥
      go true even bad q h = omega (arith, h)
      go false false bad q h = false≢true q
      go false true none q h = omega (arith, h)
      go false true (some p) q h = omega (arith, h)

  -- THE NODES OF A WIDENED TABLE are the table's own, so that its rows meet where they met and the same rows are closest.
  pub nodes_widened : (rs : List Row) → tests1_3 f b ≡ given rs → nodes (rows (deeper f n) wide) ≡ nodes (rows f b)
  nodes_widened rs h =
      let (e, sound, short) = passed1_3 f b rs h in
      ap nodes (rows_widened f n b) ∙ nodes-same f n (rows f b) (rows_laid f b) (subst (λ z. bad_row f z ≡ none) (sym e) sound)
