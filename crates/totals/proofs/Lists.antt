-- Laws of lists: what is one of a list that is kept, mapped or joined, and what a test says of such a list. Assumes nothing.
use Prim.Native.Nat.{ℕ, zero, suc, ◌≤◌, ◌<◌, zero-le}
use native.Mathlib.Nat.{not-suc-le-zero, le_of_suc-le-suc}
use native.Mathlib.Omega.{arith}
use mathlib.Core.Path.{◌≡◌, refl, sym, ◌∙◌, ap, ap₂}
use mathlib.Core.Logic.{◌⊎◌, inl, inr, ⊎_elim}
use mathlib.Core.Bool.{Bool, true, false, ◌&&◌, ◌||◌, false≢true}
use mathlib.Core.List.{List, [], ◌∷◌, ◌++◌, map}
use mathlib.Core.Option.{Option, none, some}
use lib.ListN.{length, get_or}
use borrow.Author.Tests.{lt-ltb}
use Rattle.paper.specs.Lists.{Has, keep, any, place, first_place, joined, first_break}

-- ---- tests
pub both : (a b : Bool) → a && b ≡ true → (a ≡ true) × (b ≡ true)
both true b e = (refl, e)
both false b e = absurd (false≢true e)

pub and : {a b : Bool} → a ≡ true → b ≡ true → a && b ≡ true
and {a} {b} e f = ap₂ (λ x y. x && y) e f

pub either : (a b : Bool) → a || b ≡ true → (a ≡ true) ⊎ (b ≡ true)
either true b e = inl refl
either false b e = inr e

-- two tests, each of which passes where the other does, are one
pub same_test : (a b : Bool) → (a ≡ true → b ≡ true) → (b ≡ true → a ≡ true) → a ≡ b
same_test true b to from = sym (to refl)
same_test false true to from = from refl
same_test false false to from = refl

module _ {A : Type 0} where
  -- ---- what is one of a list
  pub has_append : (x : A) (xs ys : List A) → Has x (xs ++ ys) → Has x xs ⊎ Has x ys
  has_append x [] ys h = inr h
  has_append x (z ∷ xs) ys (inl e) = inl (inl e)
  has_append x (z ∷ xs) ys (inr h) = ⊎_elim (λ i. inl (inr i)) (λ i. inr i) (has_append x xs ys h)

  -- the element stands first where it passes
  abbrev pub put_if : Bool → A → List A → List A
  put_if b x l = elim b [ true ↦ x ∷ l | false ↦ l ]

  pub keep-has : (p : A → Bool) (x : A) (xs : List A) → Has x (keep p xs) → Has x xs × (p x ≡ true)
  keep-has p x [] h = absurd h
  keep-has p x (z ∷ zs) h = go (p z) refl h (keep-has p x zs)
    where
      go : (b : Bool) → p z ≡ b → Has x (put_if b z (keep p zs)) → (Has x (keep p zs) → Has x zs × (p x ≡ true)) → Has x (z ∷ zs) × (p x ≡ true)
      go true e (inl q) ih = (inl q, ap p q ∙ e)
      go true e (inr i) ih = let r = ih i in (inr r.0, r.1)
      go false e i ih = let r = ih i in (inr r.0, r.1)

  pub has-keep : (p : A → Bool) (x : A) (xs : List A) → Has x xs → p x ≡ true → Has x (keep p xs)
  has-keep p x [] h e = absurd h
  has-keep p x (z ∷ zs) h e = go (p z) refl h (λ i. has-keep p x zs i e)
    where
      go : (b : Bool) → p z ≡ b → Has x (z ∷ zs) → (Has x zs → Has x (keep p zs)) → Has x (put_if b z (keep p zs))
      go true q (inl s) ih = inl s
      go true q (inr i) ih = inr (ih i)
      go false q (inl s) ih = absurd (false≢true (sym q ∙ sym (ap p s) ∙ e))
      go false q (inr i) ih = ih i

  pub any_has : (p : A → Bool) (xs : List A) → any p xs ≡ true → (x : A) × Has x xs × (p x ≡ true)
  any_has p [] e = absurd (false≢true e)
  any_has p (z ∷ zs) e =
      ⊎_elim (λ q. (z, inl refl, q)) (λ q. let (x, i, r) = any_has p zs q in (x, inr i, r)) (either (p z) (any p zs) e)

  pub has_any : (p : A → Bool) (x : A) (xs : List A) → Has x xs → p x ≡ true → any p xs ≡ true
  has_any p x [] h e = absurd h
  has_any p x (z ∷ zs) (inl q) e = ap (λ b. b || any p zs) (sym (ap p q) ∙ e)
  has_any p x (z ∷ zs) (inr h) e = go (p z) (has_any p x zs h e)
    where
      go : (b : Bool) → any p zs ≡ true → b || any p zs ≡ true
      go true i = refl
      go false i = i

  -- ---- what is kept
  -- tests that agree on the list keep the same
  pub keep_same : (p q : A → Bool) (xs : List A) → ((x : A) → Has x xs → p x ≡ q x) → keep p xs ≡ keep q xs
  keep_same p q [] h = refl
  keep_same p q (x ∷ xs) h = ap₂ (λ b l. put_if b x l) (h x (inl refl)) (keep_same p q xs (λ y k. h y (inr k)))

  -- a test that is passed only where the second is keeps the same of what the second keeps
  pub keep-keep : (p q : A → Bool) (xs : List A) → ((x : A) → Has x xs → p x ≡ true → q x ≡ true) → keep p xs ≡ keep p (keep q xs)
  keep-keep p q [] h = refl
  keep-keep p q (x ∷ xs) h = go (p x) (q x) refl refl (h x (inl refl)) (keep-keep p q xs (λ y k. h y (inr k)))
    where
      go : (a b : Bool) → p x ≡ a → q x ≡ b → (p x ≡ true → q x ≡ true) → keep p xs ≡ keep p (keep q xs)
          → put_if a x (keep p xs) ≡ keep p (put_if b x (keep q xs))
      go true true ea eb i ih = rw (ea, keep) (ap {B = List A} (λ l. x ∷ l) ih)
      go true false ea eb i ih = absurd (false≢true (sym eb ∙ i ea))
      go false true ea eb i ih = rw (ea, keep) ih
      go false false ea eb i ih = ih

  pub length-keep : (p : A → Bool) (xs : List A) → length (keep p xs) ≤ length xs
  length-keep p [] = zero-le
  length-keep p (x ∷ xs) = go (p x) (length-keep p xs)
    where
      go : (b : Bool) → length (keep p xs) ≤ length xs → length (put_if b x (keep p xs)) ≤ length (x ∷ xs)
      go true le = omega arith
      go false le = omega arith

  -- ---- what stands at a place
  pub get_d_has : (d : A) (l : List A) (j : ℕ) → j < length l → Has (get_or l j d) l
  get_d_has d [] j lt = absurd (not-suc-le-zero lt)
  get_d_has d (x ∷ l) zero lt = inl refl
  get_d_has d (x ∷ l) (suc j) lt = inr (get_d_has d l j (le_of_suc-le-suc lt))

-- ---- through a map
module _ {A B : Type 0} where
  pub map-has : (f : A → B) (y : B) (xs : List A) → Has y (map f xs) → (x : A) × Has x xs × (y ≡ f x)
  map-has f y [] h = absurd h
  map-has f y (z ∷ zs) (inl e) = (z, inl refl, e)
  map-has f y (z ∷ zs) (inr h) = let r = map-has f y zs h in (r.0, inr r.1, r.2)

  -- what gives the same for each element gives one list
  pub map_same : (f g : A → B) (xs : List A) → ((x : A) → Has x xs → f x ≡ g x) → map f xs ≡ map g xs
  map_same f g [] e = refl
  map_same f g (x ∷ xs) e = ap₂ {C = List B} (λ a l. a ∷ l) (e x (inl refl)) (map_same f g xs (λ y i. e y (inr i)))

  -- what is joined of a mapped list is of what one element gives
  pub joined_has : (f : A → List B) (y : B) (xs : List A) → Has y (joined (map f xs)) → (x : A) × Has x xs × Has y (f x)
  joined_has f y [] h = absurd h
  joined_has f y (z ∷ zs) h =
      ⊎_elim (λ i. (z, inl refl, i)) (λ i. let r = joined_has f y zs i in (r.0, inr r.1, r.2)) (has_append y (f z) (joined (map f zs)) h)

  pub any_map : (p : B → Bool) (f : A → B) (xs : List A) → any p (map f xs) ≡ any (λ x. p (f x)) xs
  any_map p f [] = refl
  any_map p f (x ∷ xs) = ap (λ b. p (f x) || b) (any_map p f xs)

  -- what stands at a place of a mapped list
  pub get_d_map : (f : A → B) (xs : List A) (i : ℕ) (d : A) (c : B) → i < length xs → get_or (map f xs) i c ≡ f (get_or xs i d)
  get_d_map f [] i d c lt = absurd (not-suc-le-zero lt)
  get_d_map f (x ∷ xs) zero d c lt = refl
  get_d_map f (x ∷ xs) (suc i) d c lt = get_d_map f xs i d c (le_of_suc-le-suc lt)

-- ---- a rule that no element breaks, and a test that none passes
module _ {A B : Type 0} (rule : B → A → Bool) (leaves : A → B) where
  -- every element keeps the rule, after something
  abbrev Kept : List A → Type 0
  Kept xs = (x : A) → Has x xs → (c : B) × (rule c x ≡ true)

  pub unbroken : (i : ℕ) (b : B) (xs : List A) → first_break rule leaves i b xs ≡ none → Kept xs
  unbroken i b [] e x h = absurd h
  unbroken i b (y ∷ ys) e x h = go (rule b y) refl e h (unbroken (suc i) (leaves y) ys)
    where
      next : Option ℕ
      next = first_break rule leaves (suc i) (leaves y) ys

      go : (t : Bool) → rule b y ≡ t → ◌≡◌ {A = Option ℕ} (elim t [ true ↦ next | false ↦ some i ]) none → Has x (y ∷ ys)
          → (next ≡ none → Kept ys) → (c : B) × (rule c x ≡ true)
      go true q e (inl s) ih = (b, ap (rule b) s ∙ q)
      go true q e (inr h) ih = ih e x h
      go false q e h ih = let z : ◌≡◌ {A = ℕ} 0 1 = cc in let w : ⊥ = omega arith in absurd w

module _ {A : Type 0} (p : A → Bool) where
  place_in : (x : A) (xs : List A) → Has x xs → p x ≡ true → place p xs < length xs
  place_in x [] h e = absurd h
  place_in x (y ∷ ys) h e = go (p y) refl h (λ i. place_in x ys i e)
    where
      go : (t : Bool) → p y ≡ t → Has x (y ∷ ys) → (Has x ys → place p ys < length ys)
          → elim t as (λ _. ℕ) [ true ↦ 0 | false ↦ suc (place p ys) ] < suc (length ys)
      go true q h ih = omega arith
      go false q (inl s) ih = absurd (false≢true (sym q ∙ sym (ap p s) ∙ e))
      go false q (inr i) ih = omega (arith, ih i)

  -- where none is found, none passes
  pub none_passes : (xs : List A) → first_place p xs ≡ none → (x : A) → Has x xs → p x ≡ false
  none_passes xs e x h = go (p x) refl
    where
      go : (t : Bool) → p x ≡ t → t ≡ false
      go true q =
          let found : ◌≡◌ {A = Option ℕ} (some (place p xs)) none = rw (lt-ltb (place p xs) (length xs) (place_in x xs h q), first_place) at e in
          let z : ◌≡◌ {A = ℕ} 0 1 = cc in let w : ⊥ = omega arith in absurd w
      go false q = refl
