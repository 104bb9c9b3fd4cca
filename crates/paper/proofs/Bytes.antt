-- Records that are written are read back as they were, and a file is its records. Assumes nothing.
use Prim.Native.Nat.{ℕ, zero, suc, ◌+◌, ◌*◌, ◌/◌, ◌%◌, ◌≤◌, ◌<◌}
use native.Mathlib.Nat.{zero-div, add-div_left, zero-mul, suc-mul, div-add-mod', div-mul-le_self}
use native.Mathlib.Omega.{arith}
use mathlib.Core.Path.{◌≡◌, refl, sym, ◌∙◌, ap, ap₂}
use mathlib.Core.Logic.{inl, inr}
use mathlib.Core.List.{List, [], ◌∷◌, ◌++◌, map, append_assoc}
use lib.ListN.{length, get_or, take, drop, length-append, length-drop}
use lib.Seq.{get_or_at, take_all, take_at, drop_at, take-add, length-take-le}
use Rattle.paper.specs.Lists.{Has, join_map}
use Rattle.paper.specs.Format.{Format, head_bytes, list_bytes, value_bytes, row_bytes, word, words, span, records, whole, bytes}
use Rattle.paper.specs.Tables.{Row, row_of, row_back, dewey}

-- a number of 16 bits
abbrev pub Small : ℕ → Type 0
Small x = x < 65536

-- ---- numbers
word_back : (pre : List ℕ) (x i : ℕ) (rest : List ℕ) → length pre ≡ i → Small x → word (pre ++ (bytes 2 x ++ rest)) i ≡ x
word_back pre x i rest e lt =
    let lo = get_or_at pre (x % 256) (x / 256 % 256 ∷ rest) 0 i e in
    let hi : get_or (pre ++ (bytes 2 x ++ rest)) (suc i) 0 ≡ x / 256 % 256 =
    ap (λ l. get_or l (suc i) 0) (sym (append_assoc pre (x % 256 ∷ []) (x / 256 % 256 ∷ rest)))
    ∙ get_or_at (pre ++ (x % 256 ∷ [])) (x / 256 % 256) rest 0 (suc i) (omega (arith, length-append pre (x % 256 ∷ []))) in
    omega (arith, lo, hi)

pub words_back : (pre : List ℕ) (xs : List ℕ) (i : ℕ) (rest : List ℕ) → length pre ≡ i → ((x : ℕ) → Has x xs → Small x)
    → words (length xs) (pre ++ (join_map (bytes 2) xs ++ rest)) i ≡ xs
words_back pre [] i rest e small = refl
words_back pre (x ∷ xs) i rest e small =
    let b = join_map (bytes 2) xs ++ rest in
    let q : pre ++ (join_map (bytes 2) (x ∷ xs) ++ rest) ≡ pre ++ (bytes 2 x ++ b) = ap (λ l. pre ++ l) (append_assoc (bytes 2 x) (join_map (bytes 2) xs) rest) in
    let p : pre ++ (bytes 2 x ++ b) ≡ (pre ++ bytes 2 x) ++ b = sym (append_assoc pre (bytes 2 x) b) in
    ap₂ {C = List ℕ} (λ a l. a ∷ l) (ap (λ l. word l i) q ∙ word_back pre x i b e (small x (inl refl)))
    (ap (λ l. words (length xs) l (suc (suc i))) (q ∙ p)
    ∙ words_back (pre ++ bytes 2 x) xs (suc (suc i)) rest (omega (arith, length-append pre (bytes 2 x))) (λ y h. small y (inr h)))

span_back : (pre v : List ℕ) (i : ℕ) → length pre ≡ i → span (length v) (pre ++ v) i ≡ v
span_back pre [] i e = refl
span_back pre (x ∷ v) i e =
    ap₂ {C = List ℕ} (λ a l. a ∷ l) (get_or_at pre x v 0 i e)
    (ap (λ l. span (length v) l (suc i)) (sym (append_assoc pre (x ∷ []) v))
    ∙ span_back (pre ++ (x ∷ [])) v (suc i) (omega (arith, length-append pre (x ∷ []))))

pub length_numbers : (xs : List ℕ) → length (join_map (bytes 2) xs) ≡ 2 * length xs
length_numbers [] = refl
length_numbers (x ∷ xs) = omega (arith, length_numbers xs, length-append (bytes 2 x) (join_map (bytes 2) xs))

-- ---- rows
-- a row whose fields have the lengths of the format
abbrev pub Shaped : Format → Row → Type 0
Shaped f r = (length r.components ≡ f.levels) × (length r.value ≡ value_bytes)

abbrev head : Row → List ℕ
head r = r.level ∷ r.spare ∷ bytes 2 r.label

row-parts : (r : Row) → row_back r ≡ head r ++ (join_map (bytes 2) r.components ++ r.value)
unfolding row_back
row-parts r = append_assoc (head r) (join_map (bytes 2) r.components) r.value

pub length-row : (f : Format) (r : Row) → Shaped f r → length (row_back r) ≡ row_bytes f
length-row f r (c, v) =
    ap length (row-parts r)
    ∙ (omega (
      arith,
      length-append (head r) (join_map (bytes 2) r.components ++ r.value),
      length-append (join_map (bytes 2) r.components) r.value,
      length_numbers r.components,
    ))

components_back : (f : Format) (r : Row) → Shaped f r → ((x : ℕ) → Has x r.components → Small x) → (row_of f (row_back r)).components ≡ r.components
unfolding row_of
components_back f r (c, v) small =
    ap (λ n. words n (row_back r) head_bytes) (sym c) ∙ ap (λ b. words (length r.components) b head_bytes) (row-parts r)
    ∙ words_back (head r) r.components head_bytes r.value refl small

level_back : (f : Format) (r : Row) → (row_of f (row_back r)).level ≡ r.level
unfolding row_of row_back
level_back f r = refl

-- a row's Dewey number is read back
pub dewey_back : (f : Format) (r : Row) → Shaped f r → ((x : ℕ) → Has x r.components → Small x) → dewey (row_of f (row_back r)) ≡ dewey r
dewey_back f r sh small = ap₂ (λ n l. take n l) (level_back f r) (components_back f r sh small)

label_back : (f : Format) (r : Row) → Small r.label → (row_of f (row_back r)).label ≡ r.label
unfolding row_of
label_back f r lab =
    ap (λ b. word b 2) (row-parts r) ∙ word_back (r.level ∷ r.spare ∷ []) r.label 2 (join_map (bytes 2) r.components ++ r.value) refl lab

value_back : (f : Format) (r : Row) → Shaped f r → (row_of f (row_back r)).value ≡ r.value
unfolding row_of row_back
value_back f r (c, v) =
    let pre = head r ++ join_map (bytes 2) r.components in
    ap (λ n. span n (pre ++ r.value) (head_bytes + list_bytes f)) (sym v)
    ∙ span_back pre r.value (head_bytes + list_bytes f)
    (omega (arith, length-append (head r) (join_map (bytes 2) r.components), length_numbers r.components))

-- a whole row is read back
pub row_back_lem : (f : Format) (r : Row) → Shaped f r → ((x : ℕ) → Has x r.components → Small x) → Small r.label → row_of f (row_back r) ≡ r
unfolding row_of row_back
row_back_lem f r sh small lab =
    λ i. record { level = r.level; spare = r.spare; label = label_back f r lab i; components = components_back f r sh small i; value = value_back f r sh i }

-- ---- tables
-- whole records one after the other are read back as records
module _ {A : Type 0} (w : ℕ) (pos : 0 < w) (g : A → List ℕ) where
  pub whole_back : (xs : List A) → ((x : A) → Has x xs → length (g x) ≡ w) → whole w (join_map g xs) ≡ length xs
  whole_back [] e = zero-div w
  whole_back (x ∷ xs) e =
      ap (λ n. n / w) (length-append (g x) (join_map g xs) ∙ ap (λ n. n + length (join_map g xs)) (e x (inl refl)))
      ∙ add-div_left (length (join_map g xs)) pos ∙ (omega (arith, whole_back xs (λ y h. e y (inr h))))

  pub length_back : (xs : List A) → ((x : A) → Has x xs → length (g x) ≡ w) → length (join_map g xs) ≡ length xs * w
  length_back [] e = sym (zero-mul w)
  length_back (x ∷ xs) e =
      length-append (g x) (join_map g xs) ∙ ap₂ (λ m n. m + n) (e x (inl refl)) (length_back xs (λ y h. e y (inr h)))
      ∙ (omega (arith, suc-mul (length xs) w))

  pub records_back : (xs : List A) → ((x : A) → Has x xs → length (g x) ≡ w) → records w (length xs) (join_map g xs) ≡ map g xs
  records_back [] e = refl
  records_back (x ∷ xs) e =
      ap₂ {C = List (List ℕ)} (λ a l. a ∷ l) (take_at (g x) (join_map g xs) w (e x (inl refl)))
      (ap (records w (length xs)) (drop_at (g x) (join_map g xs) w (e x (inl refl))) ∙ records_back xs (λ y h. e y (inr h)))

-- ---- the records of a file
module _ (w : ℕ) where
  pub record_size : (m : ℕ) (b : List ℕ) → m * w ≤ length b → (r : List ℕ) → Has r (records w m b) → length r ≡ w
  record_size zero b le r h = absurd h
  record_size (suc m) b le r (inl e) = ap length e ∙ length-take-le w b (omega (arith, suc-mul m w))
  record_size (suc m) b le r (inr h) = record_size m (drop w b) (omega (arith, suc-mul m w, length-drop w b)) r h

  pub file_record : (b r : List ℕ) → Has r (records w (whole w b) b) → length r ≡ w
  file_record b = record_size (whole w b) b (div-mul-le_self (length b) w)

  joined_records : (m : ℕ) (b : List ℕ) → join_map (λ r. r) (records w m b) ≡ take (m * w) b
  joined_records zero b = ap (λ k. take k b) (sym (zero-mul w))
  joined_records (suc m) b =
      ap (λ l. take w b ++ l) (joined_records m (drop w b)) ∙ sym (take-add w (m * w) b)
      ∙ ap (λ k. take k b) more
    where
      more : w + m * w ≡ suc m * w
      more = omega (arith, suc-mul m w)

  -- the bytes of a file of whole records
  pub whole_length : (b : List ℕ) → length b % w ≡ 0 → whole w b * w ≡ length b
  whole_length b e = omega (arith, div-add-mod' (length b) w, e)

  pub whole-records : (b : List ℕ) → length b % w ≡ 0 → join_map (λ r. r) (records w (whole w b) b) ≡ b
  whole-records b e = joined_records (whole w b) b ∙ take_all (whole w b * w) b (omega (arith, whole_length b e))
