-- What a list keeps: the same by tests that agree, through a map, and how many. What is found in lists, the range of a list's figures, and what
-- padded lists hold. Assumes nothing.
use Prim.Native.Nat.{ℕ, zero, suc, ◌+◌, ◌≤◌, ◌<◌, zero-le, suc-le-suc}
use native.Mathlib.Nat.{not-suc-le-zero, le_of_suc-le-suc}
use native.Mathlib.Omega.{arith}
use mathlib.Core.Path.{◌≡◌, refl, sym, ◌∙◌, ap, ap₂, subst}
use mathlib.Core.Logic.{◌⊎◌, inl, inr, ⊎_elim}
use mathlib.Core.Bool.{Bool, true, false, ◌||◌, false≢true}
use mathlib.Core.List.{List, [], ◌∷◌, ◌++◌, map}
use mathlib.Core.Option.{Option, none, some}
use lib.Dec.{ltb}
use lib.ListN.{length, get_or, take, replicate, length-map}
use lib.Seq.{take-append-add}
use borrow.Author.Tests.{ltb-false, le-ltb}
use Rattle.paper.specs.Lists.{Has, keep, any, most, place, first_place, Range, least, count, padded}
use Rattle.paper.proofs.Lists.{keep-has, has-map, map-has, most_has, most_reached, least_le, least_reached}

module _ {A : Type 0} where
  -- tests that agree on the list keep the same
  pub keep_same : (p q : A → Bool) (xs : List A) → ((x : A) → Has x xs → p x ≡ q x) → keep p xs ≡ keep q xs
  keep_same p q [] h = refl
  keep_same p q (x ∷ xs) h =
      ap₂ (λ (b : Bool) (l : List A). elim b as (λ _. List A) [ true ↦ x ∷ l | false ↦ l ]) (h x (inl refl)) (keep_same p q xs (λ y k. h y (inr k)))

  -- ---- how many are kept
  -- x stands first where it passes
  abbrev pub put_if : Bool → A → List A → List A
  put_if b x l = elim b [ true ↦ x ∷ l | false ↦ l ]

  -- none, where none passes the test
  pub keep-none : (p : A → Bool) (xs : List A) → ((x : A) → Has x xs → p x ≡ true → ⊥) → length (keep p xs) ≡ 0
  keep-none p xs never = go (keep p xs) refl
    where
      go : (ys : List A) → keep p xs ≡ ys → length ys ≡ 0
      go [] e = refl
      go (y ∷ ys) e = let (i, q) = keep-has p y xs (subst (λ l. Has y l) (sym e) (inl refl)) in absurd (never y i q)

  -- no more than by two tests, where what passes one test passes one of the two
  pub keep_either : (p q r : A → Bool) (xs : List A) → ((x : A) → Has x xs → p x ≡ true → (q x ≡ true) ⊎ (r x ≡ true))
      → length (keep p xs) ≤ length (keep q xs) + length (keep r xs)
  keep_either p q r [] h = zero-le
  keep_either p q r (x ∷ xs) h = go (p x) (q x) (r x) (h x (inl refl)) (keep_either p q r xs (λ y i. h y (inr i)))
    where
      go : (a b c : Bool) → (a ≡ true → (b ≡ true) ⊎ (c ≡ true)) → length (keep p xs) ≤ length (keep q xs) + length (keep r xs)
          → length (put_if a x (keep p xs)) ≤ length (put_if b x (keep q xs)) + length (put_if c x (keep r xs))
      go true true true k le = omega arith
      go true true false k le = omega arith
      go true false true k le = omega arith
      go true false false k le = absurd (⊎_elim false≢true false≢true (k refl))
      go false true true k le = omega arith
      go false true false k le = omega arith
      go false false true k le = omega arith
      go false false false k le = le

  -- no more, where what passes one test passes the other
  pub keep-fewer : (p q : A → Bool) (xs : List A) → ((x : A) → Has x xs → p x ≡ true → q x ≡ true) → length (keep p xs) ≤ length (keep q xs)
  keep-fewer p q xs h =
      omega (arith, keep_either p q (λ _. false) xs (λ x i e. inl (h x i e)), keep-none (λ _. false) xs (λ x i e. false≢true e))

-- ---- through a map
module _ {A B : Type 0} where
  pub keep-map : (p : B → Bool) (f : A → B) (xs : List A) → keep p (map f xs) ≡ map f (keep (λ x. p (f x)) xs)
  keep-map p f [] = refl
  keep-map p f (x ∷ xs) = go (p (f x)) refl (keep-map p f xs)
    where
      go : (b : Bool) → p (f x) ≡ b → keep p (map f xs) ≡ map f (keep (λ x. p (f x)) xs)
          → keep p (f x ∷ map f xs) ≡ map f (keep (λ x. p (f x)) (x ∷ xs))
      go true e ih = rw (e, keep) (ap {B = List B} (λ l. f x ∷ l) ih)
      go false e ih = rw (e, keep) ih

  pub any_same : (p : B → Bool) (q : A → Bool) (to : A → B) (xs : List A) → ((x : A) → Has x xs → p (to x) ≡ q x) → any p (map to xs) ≡ any q xs
  any_same p q to [] e = refl
  any_same p q to (x ∷ xs) e = ap₂ (λ s t. s || t) (e x (inl refl)) (any_same p q to xs (λ y h. e y (inr h)))

  pub any_map : (p : B → Bool) (f : A → B) (xs : List A) → any p (map f xs) ≡ any (λ x. p (f x)) xs
  any_map p f xs = any_same p (λ x. p (f x)) f xs (λ x h. refl)

-- ---- the first that passes a test
module _ {A : Type 0} (p : A → Bool) where
  place_none : (xs : List A) → length xs ≤ place p xs → (x : A) → Has x xs → p x ≡ false
  place_none [] le x h = absurd h
  place_none (y ∷ ys) le x h = go (p y) refl le h (place_none ys)
    where
      go : (t : Bool) → p y ≡ t → suc (length ys) ≤ elim t as (λ _. ℕ) [ true ↦ 0 | false ↦ suc (place p ys) ] → Has x (y ∷ ys)
          → (length ys ≤ place p ys → (x : A) → Has x ys → p x ≡ false) → p x ≡ false
      go true e le h ih = absurd (not-suc-le-zero le)
      go false e le (inl q) ih = ap p q ∙ e
      go false e le (inr h) ih = ih (le_of_suc-le-suc le) x h

  -- where none is found, none passes
  pub first-none : (xs : List A) → first_place p xs ≡ none → (x : A) → Has x xs → p x ≡ false
  first-none xs h = go (ltb (place p xs) (length xs)) refl h
    where
      go : (t : Bool) → ltb (place p xs) (length xs) ≡ t → ◌≡◌ {A = Option ℕ} (elim t [ true ↦ some (place p xs) | false ↦ none ]) none
          → (x : A) → Has x xs → p x ≡ false
      go true e h = let z : ◌≡◌ {A = ℕ} 0 1 = cc in let w : ⊥ = omega arith in absurd w
      go false e h = place_none xs (ltb-false (place p xs) (length xs) e)

  none-place : (xs : List A) → ((x : A) → Has x xs → p x ≡ false) → length xs ≤ place p xs
  none-place [] e = zero-le
  none-place (x ∷ xs) e =
      subst (λ t. suc (length xs) ≤ elim t as (λ _. ℕ) [ true ↦ 0 | false ↦ suc (place p xs) ]) (sym (e x (inl refl)))
      (suc-le-suc (none-place xs (λ y h. e y (inr h))))

  -- where none passes, none is found
  pub none_first : (xs : List A) → ((x : A) → Has x xs → p x ≡ false) → first_place p xs ≡ none
  none_first xs e =
      ap {B = Option ℕ} (λ t. elim t [ true ↦ some (place p xs) | false ↦ none ]) (le-ltb (place p xs) (length xs) (none-place xs e))

-- ---- searches through a map
module _ {A B : Type 0} (p : B → Bool) (q : A → Bool) (to : A → B) where
  pub place_same : (xs : List A) → ((x : A) → Has x xs → p (to x) ≡ q x) → place p (map to xs) ≡ place q xs
  place_same [] e = refl
  place_same (x ∷ xs) e =
      ap₂ (λ b k. elim b as (λ _. ℕ) [ true ↦ 0 | false ↦ suc k ]) (e x (inl refl)) (place_same xs (λ y h. e y (inr h)))

  pub first-same : (xs : List A) → ((x : A) → Has x xs → p (to x) ≡ q x) → first_place p (map to xs) ≡ first_place q xs
  first-same xs e = ap₂ {C = Option ℕ} (λ i k. elim (ltb i k) as (λ _. Option ℕ) [ true ↦ some i | false ↦ none ]) (place_same xs e) (length-map xs to)

-- what stands at a place of a mapped list
pub get_d_moved : {A B : Type 0} (to : A → B) (xs : List A) (i : ℕ) (d : A) (c : B) → i < length xs → get_or (map to xs) i c ≡ to (get_or xs i d)
get_d_moved to [] i d c lt = absurd (not-suc-le-zero lt)
get_d_moved to (x ∷ xs) zero d c lt = refl
get_d_moved to (x ∷ xs) (suc i) d c lt = get_d_moved to xs i d c (le_of_suc-le-suc lt)

-- ---- what is counted
pub length-count : (i n : ℕ) → length (count i n) ≡ n
length-count i zero = refl
length-count i (suc n) = ap suc (length-count (suc i) n)

-- what stands at a place of a mapped count
pub count_at : (g : ℕ → ℕ) (i n e : ℕ) → e < n → get_or (map g (count i n)) e 0 ≡ g (i + e)
count_at g i zero e lt = absurd (not-suc-le-zero lt)
count_at g i (suc n) zero lt = ap g (omega arith)
count_at g i (suc n) (suc e) lt = count_at g (suc i) n e (le_of_suc-le-suc lt) ∙ ap g (omega arith)

-- ---- the range of a figure
-- The least and the greatest figure of a list that has an element are its range.
pub range : {A : Type 0} (figure : A → ℕ) (xs : List A) (x : A) → Has x xs → Range figure xs (least (map figure xs)) (most (λ n. n) (map figure xs))
range figure [] x h = absurd h
range figure (z ∷ zs) x h =
    let xs = z ∷ zs in
    let ns = map figure xs in
    record {
      between = λ y i. let there = has-map figure y xs i in (least_le (figure y) ns there, most_has (λ n. n) (figure y) ns there);
      low = let (y, i, e) = map-has figure (least ns) xs (least_reached (figure z) (map figure zs)) in (y, i, sym e);
      high =
          let (n, hn, q) = most_reached (λ n. n) (figure z) (map figure zs) in
          let (y, i, e) = map-has figure n xs hn in
          (y, i, sym e ∙ q);
    }

-- ---- lists with zeros at the end
take-zeros : (k m : ℕ) → k ≤ m → take k (replicate m 0) ≡ replicate {A = ℕ} k 0
take-zeros zero m le = refl
take-zeros (suc k) zero le = absurd (not-suc-le-zero le)
take-zeros (suc k) (suc m) le = ap {B = List ℕ} (λ l. 0 ∷ l) (take-zeros k m (le_of_suc-le-suc le))

pub padded_longer : (a m : ℕ) (x : List ℕ) → length x ≡ a → padded (a + m) x ≡ x ++ replicate m 0
padded_longer a m x e =
    ap (λ k. take (k + m) (x ++ replicate (a + m) 0)) (sym e) ∙ take-append-add x (replicate (a + m) 0) m
    ∙ ap (λ l. x ++ l) (take-zeros m (a + m) (omega arith))

-- What holds of no figure, and of the figures of each element, holds of the figures at each place of padded lists.
pub padded-each : {A : Type 0} (P : ((A → ℕ) → ℕ) → Type 0) → P (λ g. 0) → ((x : A) → P (λ g. g x)) → (m n : ℕ) (xs : List A) (e : ℕ)
    → P (λ g. get_or (take m (map g xs ++ replicate n 0)) e 0)
padded-each P empty own zero n xs e = empty
padded-each P empty own (suc m) zero [] e = empty
padded-each P empty own (suc m) (suc n) [] zero = empty
padded-each P empty own (suc m) (suc n) [] (suc e) = padded-each P empty own m n [] e
padded-each P empty own (suc m) n (x ∷ xs) zero = own x
padded-each P empty own (suc m) n (x ∷ xs) (suc e) = padded-each P empty own m n xs e

-- A padded list holds its own elements, and zeros past them.
pub padded-at : (m n : ℕ) (xs : List ℕ) (e : ℕ) → length xs ≤ m → get_or (take m (xs ++ replicate n 0)) e 0 ≡ get_or xs e 0
padded-at zero n [] e le = refl
padded-at zero n (x ∷ xs) e le = absurd (not-suc-le-zero le)
padded-at (suc m) zero [] e le = refl
padded-at (suc m) (suc n) [] zero le = refl
padded-at (suc m) (suc n) [] (suc e) le = padded-at m n [] e zero-le
padded-at (suc m) n (x ∷ xs) zero le = refl
padded-at (suc m) n (x ∷ xs) (suc e) le = padded-at m n xs e (le_of_suc-le-suc le)
