-- Two walks over a list or over the records of a file: the first element that passes a test, and records written one after the other. Assumes
-- nothing.
use Prim.Native.Nat.{ℕ, zero, suc, ◌+◌, ◌*◌, ◌≤◌, ◌<◌}
use native.Mathlib.Nat.{mul-add, mul-one, mul-zero, mul-suc, not-suc-le-zero, le_of_suc-le-suc}
use native.Mathlib.Numerals.{add-one}
use native.Mathlib.Omega.{arith}
use mathlib.Core.Path.{◌≡◌, refl, sym, ◌∙◌, ap, subst}
use mathlib.Core.Bool.{Bool, true, false, ◌||◌}
use mathlib.Core.List.{List, ◌∷◌, map, []}
use lib.ListN.{length, take, drop, length-append, length-drop, drop_of_length-le}
use lib.Seq.{sets, drop-nil, length-take-le}
use Rattle.paper.specs.Lists.{any, place, joined, join_map}
use Rattle.paper.specs.Format.{records}
use Rattle.paper.proofs.Lists.{joined_map}
use Rattle.octets.proofs.Writing.{Writing, all_left, all_written, part_written}
use Rattle.tables.proofs.Rows.{rec, drop-records}

-- ---- the first that passes a test
module _ {A : Type 0} (p : A → Bool) where
  first_here : (x : A) (xs : List A) → p x ≡ true → place p (x ∷ xs) ≡ 0
  first_here x xs e = ap (λ t. elim t as (λ _. ℕ) [ true ↦ 0 | false ↦ suc (place p xs) ]) e

  first-later : (x : A) (xs : List A) → p x ≡ false → place p (x ∷ xs) ≡ suc (place p xs)
  first-later x xs e = ap (λ t. elim t as (λ _. ℕ) [ true ↦ 0 | false ↦ suc (place p xs) ]) e

  some_here : (x : A) (xs : List A) → p x ≡ true → any p (x ∷ xs) ≡ true
  some_here x xs e = ap (λ t. t || any p xs) e

  some-later : (x : A) (xs : List A) → p x ≡ false → any p (x ∷ xs) ≡ any p xs
  some-later x xs e = ap (λ t. t || any p xs) e

  module _ (xs : List A) (n : ℕ) where
    -- From element i on the first is the list's, and there is one exactly if the list has one.
    abbrev pub Looking : ℕ → Type 0
    Looking i = (i ≤ n) × (i + place p (drop i xs) ≡ place p xs) × (any p (drop i xs) ≡ any p xs)

    pub looking_start : Looking 0
    looking_start = (omega arith, omega arith, refl)

    module _ (i : ℕ) (looking : Looking i) where
      -- the next element
      module _ (lt : i < n) (x : A) (next : drop i xs ≡ x ∷ drop (suc i) xs) where
        pub looking_stop : p x ≡ true → i ≡ place p xs
        looking_stop e = omega (arith, looking.1, ap (place p) next ∙ first_here x (drop (suc i) xs) e)

        pub looking_found : p x ≡ true → true ≡ any p xs
        looking_found e = sym (ap (any p) next ∙ some_here x (drop (suc i) xs) e) ∙ looking.2

        pub looking_on : p x ≡ false → Looking (i + 1)
        looking_on e = (
          omega arith,
          omega (arith, looking.1, ap (place p) next ∙ first-later x (drop (suc i) xs) e, ap (λ k. place p (drop k xs)) (add-one i)),
          ap (λ k. any p (drop k xs)) (add-one i) ∙ sym (ap (any p) next ∙ some-later x (drop (suc i) xs) e) ∙ looking.2,
        )

      -- none is left
      module _ (long : length xs ≡ n) (le : n ≤ i) where
        nothing : drop i xs ≡ []
        nothing = drop_of_length-le xs {i = i} (omega (arith, long))

        pub looking_end : n ≡ place p xs
        looking_end = omega (arith, looking.0, looking.1, ap (place p) nothing)

        pub looking_none : false ≡ any p xs
        looking_none = sym (ap (any p) nothing) ∙ looking.2

-- ---- records
pub count-records : (w n : ℕ) (b : List ℕ) → length (records w n b) ≡ n
count-records w zero b = refl
count-records w (suc n) b = ap suc (count-records w n (drop w b))

-- each of them from its place on
pub next_record : (w n : ℕ) (b : List ℕ) (i : ℕ) → i < n → drop i (records w n b) ≡ rec w i b ∷ drop (suc i) (records w n b)
next_record w n b i lt = subst (λ (l : List (List ℕ)). drop i l ≡ rec w i b ∷ drop (suc i) l) (map_same (records w n b)) (drop-records (λ r. r) w n b i lt)
  where
    map_same : (l : List (List ℕ)) → map (λ r. r) l ≡ l
    map_same [] = refl
    map_same (r ∷ l) = ap (λ (m : List (List ℕ)). r ∷ m) (map_same l)

-- ---- records written one after the other, each as m bytes
-- past the last record nothing is left
pub records_end : {A : Type 0} (h : List ℕ → A) (w n : ℕ) (b : List ℕ) (i : ℕ) → n ≤ i → drop i (map h (records w n b)) ≡ []
records_end h w zero b i le = drop-nil i
records_end h w (suc n) b zero le = absurd (not-suc-le-zero le)
records_end h w (suc n) b (suc i) le = records_end h w n (drop w b) i (le_of_suc-le-suc le)

-- Each of w bytes becomes one of m bytes.
abbrev pub Each : (List ℕ → List ℕ) → ℕ → ℕ → Type 0
Each h w m = (r : List ℕ) → length r ≡ w → length (h r) ≡ m

module _ (h : List ℕ → List ℕ) (w m : ℕ) where
  -- n records that lie within the bytes have so many in all
  pub joined_length : Each h w m → (n : ℕ) (b : List ℕ) → w * n ≤ length b → length (join_map h (records w n b)) ≡ m * n
  joined_length each zero b le = sym (mul-zero m)
  joined_length each (suc n) b le =
      let more = mul-suc w n in
      let long = length-take-le w b (omega (arith, le, more)) in
      omega (
        arith,
        length-append (h (take w b)) (join_map h (records w n (drop w b))),
        each (take w b) long,
        joined_length each n (drop w b) (omega (arith, le, more, length-drop w b)),
        mul-suc m n,
      )

  module _ (n : ℕ) (b : List ℕ) where
    -- the bytes that are written, record by record
    abbrev parts : List (List ℕ)
    parts = map h (records w n b)

    abbrev wanted : List ℕ
    wanted = join_map h (records w n b)

    -- the records from i on are still to be written
    abbrev pub Going : List ℕ → List ℕ → ℕ → Type 0
    Going before new i = Writing before 0 wanted new (m * i) (joined (drop i parts))

    pub going_start : (l : List ℕ) → Going l l 0
    going_start l =
        subst (λ (vs : List ℕ). Writing l 0 wanted l (m * 0) vs) (sym (joined_map h (records w n b))) (all_left l 0 wanted (m * 0) (mul-zero m))

    module _ (before new : List ℕ) (i : ℕ) (going : Going before new i) where
      pub going_on : Each h w m → i < n → length (rec w i b) ≡ w → (new' : List ℕ) → new' ≡ sets new (m * i) (h (rec w i b)) → Going before new' (i + 1)
      going_on each lt long new' e =
          part_written going (h (rec w i b)) (joined (drop (i + 1) parts))
          (ap joined (drop-records h w n b i lt ∙ ap (λ k. h (rec w i b) ∷ drop k parts) (sym (add-one i))))
          new' e (m * (i + 1)) (omega (arith, each (rec w i b) long, mul-add m i 1, mul-one m))

      pub going_end : n ≤ i → new ≡ sets before 0 wanted
      going_end le = all_written going (ap joined (records_end h w n b i le))
