-- Membership of what the definitions keep, join and map; tests on lists; largest and least. Assumes nothing.
use Prim.Native.Nat.{ℕ, zero, suc, ◌+◌, ◌≤◌, ◌<◌, min, pred, zero-le}
use native.Mathlib.Nat.{not-suc-le-zero, le_of_suc-le-suc}
use native.Mathlib.Omega.{arith}
use mathlib.Core.Path.{◌≡◌, refl, sym, ◌∙◌, ap, ap₂, subst}
use mathlib.Core.Logic.{◌⊎◌, inl, inr, ⊎_elim}
use mathlib.Core.Bool.{Bool, true, false, ◌&&◌, ◌||◌, not, true≢false, false≢true}
use mathlib.Core.List.{List, [], ◌∷◌, ◌++◌, map, append_assoc}
use lib.Dec.{eqb, leb}
use lib.ListN.{length, get_or, take, drop, length-append}
use lib.Seq.{take_at}
use borrow.Author.Tests.{eqb-true, eq-eqb, ne_eqb, leb-true, leb-false}
use Rattle.paper.specs.Lists.{Has, keep, all, any, is_empty, last_or, between, most, least, joined, join_map, same, up, count}

-- A wrong definition is refused first by the sample that it breaks, so the samples stand before every law.

-- ---- tests
pub both : (a b : Bool) → a && b ≡ true → (a ≡ true) × (b ≡ true)
both true b e = (refl, e)
both false b e = absurd (false≢true e)

pub either : (a b : Bool) → a || b ≡ true → (a ≡ true) ⊎ (b ≡ true)
either true b e = inl refl
either false b e = inr e

pub and : {a b : Bool} → a ≡ true → b ≡ true → a && b ≡ true
and {a} {b} e f = ap₂ (λ x y. x && y) e f

pub or_left : {a : Bool} (b : Bool) → a ≡ true → a || b ≡ true
or_left b e = ap (λ x. x || b) e

pub or_right : (a : Bool) {b : Bool} → b ≡ true → a || b ≡ true
or_right true e = refl
or_right false e = e

pub or_none : (x : Bool) → x || false ≡ x
or_none true = refl
or_none false = refl

-- x lies in a to b
pub within : (a x b : ℕ) → between a x b ≡ true → (a ≤ x) × (x ≤ b)
within a x b h = let (lo, hi) = both (leb a x) (leb x b) h in (leb-true a x lo, leb-true x b hi)

pub same_eq : (a b : List ℕ) → same a b ≡ true → a ≡ b
same_eq [] [] e = refl
same_eq [] (y ∷ b) e = absurd (false≢true e)
same_eq (x ∷ a) [] e = absurd (false≢true e)
same_eq (x ∷ a) (y ∷ b) e =
    let h = both (eqb x y) (same a b) e in
    ap₂ {C = List ℕ} (λ u v. u ∷ v) (eqb-true x y h.0) (same_eq a b h.1)

pub same_self : (a : List ℕ) → same a a ≡ true
same_self [] = refl
same_self (x ∷ a) = and (eq-eqb x x refl) (same_self a)

pub eq_same : {a b : List ℕ} → a ≡ b → same a b ≡ true
eq_same {a} e = subst (λ x. same a x ≡ true) e (same_self a)

-- ---- membership
module _ {A : Type 0} where
  pub has_left : (x : A) (xs ys : List A) → Has x xs → Has x (xs ++ ys)
  has_left x [] ys h = absurd h
  has_left x (z ∷ xs) ys (inl e) = inl e
  has_left x (z ∷ xs) ys (inr h) = inr (has_left x xs ys h)

  pub has_right : (x : A) (xs ys : List A) → Has x ys → Has x (xs ++ ys)
  has_right x [] ys h = h
  has_right x (z ∷ xs) ys h = inr (has_right x xs ys h)

  pub has_append : (x : A) (xs ys : List A) → Has x (xs ++ ys) → Has x xs ⊎ Has x ys
  has_append x [] ys h = inr h
  has_append x (z ∷ xs) ys (inl e) = inl (inl e)
  has_append x (z ∷ xs) ys (inr h) = ⊎_elim (λ i. inl (inr i)) (λ i. inr i) (has_append x xs ys h)

  keep-step : (x z : A) (zs : List A) (b : Bool) → Has x (elim b [ true ↦ z ∷ zs | false ↦ zs ]) → ((x ≡ z) × (b ≡ true)) ⊎ Has x zs
  keep-step x z zs true (inl e) = inl (e, refl)
  keep-step x z zs true (inr h) = inr h
  keep-step x z zs false h = inr h

  pub keep-has : (p : A → Bool) (x : A) (xs : List A) → Has x (keep p xs) → Has x xs × (p x ≡ true)
  keep-has p x [] h = absurd h
  keep-has p x (z ∷ zs) h =
      ⊎_elim (λ e. (inl e.0, ap p e.0 ∙ e.1)) (λ i. let r = keep-has p x zs i in (inr r.0, r.1))
      (keep-step x z (keep p zs) (p z) h)

  step-has : (x z : A) (zs : List A) (b : Bool) → ((x ≡ z) × (b ≡ true)) ⊎ Has x zs → Has x (elim b [ true ↦ z ∷ zs | false ↦ zs ])
  step-has x z zs true (inl e) = inl e.0
  step-has x z zs true (inr h) = inr h
  step-has x z zs false (inl e) = absurd (false≢true e.1)
  step-has x z zs false (inr h) = h

  pub has-keep : (p : A → Bool) (x : A) (xs : List A) → Has x xs → p x ≡ true → Has x (keep p xs)
  has-keep p x [] h e = absurd h
  has-keep p x (z ∷ zs) (inl q) e = step-has x z (keep p zs) (p z) (inl (q, sym (ap p q) ∙ e))
  has-keep p x (z ∷ zs) (inr h) e = step-has x z (keep p zs) (p z) (inr (has-keep p x zs h e))

  pub all-has : (p : A → Bool) (x : A) (xs : List A) → all p xs ≡ true → Has x xs → p x ≡ true
  all-has p x [] e h = absurd h
  all-has p x (z ∷ zs) e (inl q) = ap p q ∙ (both (p z) (all p zs) e).0
  all-has p x (z ∷ zs) e (inr h) = all-has p x zs (both (p z) (all p zs) e).1 h

  pub has_all : (p : A → Bool) (xs : List A) → ((x : A) → Has x xs → p x ≡ true) → all p xs ≡ true
  has_all p [] h = refl
  has_all p (z ∷ zs) h = and (h z (inl refl)) (has_all p zs (λ x i. h x (inr i)))

  pub any_has : (p : A → Bool) (xs : List A) → any p xs ≡ true → (x : A) × Has x xs × (p x ≡ true)
  any_has p [] e = absurd (false≢true e)
  any_has p (z ∷ zs) e =
      ⊎_elim (λ q. (z, inl refl, q)) (λ q. let (x, i, r) = any_has p zs q in (x, inr i, r)) (either (p z) (any p zs) e)

  pub has_any : (p : A → Bool) (x : A) (xs : List A) → Has x xs → p x ≡ true → any p xs ≡ true
  has_any p x [] h e = absurd h
  has_any p x (z ∷ zs) (inl q) e = or_left (any p zs) (sym (ap p q) ∙ e)
  has_any p x (z ∷ zs) (inr h) e = or_right (p z) (has_any p x zs h e)

  pub none_any : (p : A → Bool) (xs : List A) → ((x : A) → Has x xs → p x ≡ true → ⊥) → not (any p xs) ≡ true
  none_any p xs none = go (any p xs) refl
    where
      go : (b : Bool) → any p xs ≡ b → not b ≡ true
      go true e = let (x, h, q) = any_has p xs e in absurd (none x h q)
      go false e = refl

  pub take-has : (n : ℕ) (xs : List A) (x : A) → Has x (take n xs) → Has x xs
  take-has zero xs x h = absurd h
  take-has (suc n) [] x h = absurd h
  take-has (suc n) (y ∷ xs) x (inl e) = inl e
  take-has (suc n) (y ∷ xs) x (inr h) = inr (take-has n xs x h)

  pub drop-has : (n : ℕ) (xs : List A) (x : A) → Has x (drop n xs) → Has x xs
  drop-has zero xs x h = h
  drop-has (suc n) [] x h = absurd h
  drop-has (suc n) (y ∷ xs) x h = inr (drop-has n xs x h)

  -- ---- the largest figure
  pub most_has : (f : A → ℕ) (x : A) (xs : List A) → Has x xs → f x ≤ most f xs
  most_has f x [] h = absurd h
  most_has f x (z ∷ zs) (inl e) = omega (arith, ap f e)
  most_has f x (z ∷ zs) (inr h) = omega (arith, most_has f x zs h)

  pub most_le : (f : A → ℕ) (m : ℕ) (xs : List A) → ((x : A) → Has x xs → f x ≤ m) → most f xs ≤ m
  most_le f m [] h = zero-le
  most_le f m (x ∷ xs) h = omega (arith, h x (inl refl), most_le f m xs (λ y i. h y (inr i)))

  -- a largest figure of a list that is not empty is reached
  pub most_reached : (f : A → ℕ) (z : A) (zs : List A) → (x : A) × Has x (z ∷ zs) × (f x ≡ most f (z ∷ zs))
  most_reached f z [] = (z, inl refl, omega arith)
  most_reached f z (y ∷ ys) = go (leb (f z) (most f (y ∷ ys))) refl (most_reached f y ys)
    where
      go : (b : Bool) → leb (f z) (most f (y ∷ ys)) ≡ b → (x : A) × Has x (y ∷ ys) × (f x ≡ most f (y ∷ ys))
          → (x : A) × Has x (z ∷ y ∷ ys) × (f x ≡ most f (z ∷ y ∷ ys))
      go true e (x, h, q) = let le = leb-true (f z) (most f (y ∷ ys)) e in (x, inr h, omega arith)
      go false e r = let lt = leb-false (f z) (most f (y ∷ ys)) e in (z, inl refl, omega arith)

  pub most_from : (f : A → ℕ) (xs : List A) → 0 < most f xs → (x : A) × Has x xs × (f x ≡ most f xs)
  most_from f [] h = absurd (not-suc-le-zero h)
  most_from f (z ∷ zs) h = most_reached f z zs

  -- ---- empty lists
  pub some_in : (xs : List A) → is_empty xs ≡ false → (x : A) × Has x xs
  some_in [] e = absurd (true≢false e)
  some_in (z ∷ zs) e = (z, inl refl)

  pub in_some : (x : A) (xs : List A) → Has x xs → is_empty xs ≡ false
  in_some x [] h = absurd h
  in_some x (z ∷ zs) h = refl

  pub empty_length : (xs : List A) → is_empty xs ≡ eqb (length xs) 0
  empty_length [] = refl
  empty_length (z ∷ zs) = sym (ne_eqb (suc (length zs)) 0 (λ e. omega arith))

-- ---- membership by place
module _ {A : Type 0} (d : A) where
  pub get_d_has : (l : List A) (j : ℕ) → j < length l → Has (get_or l j d) l
  get_d_has [] j lt = absurd (not-suc-le-zero lt)
  get_d_has (x ∷ l) zero lt = inl refl
  get_d_has (x ∷ l) (suc j) lt = inr (get_d_has l j (le_of_suc-le-suc lt))

  pub has_get_d : (x : A) (l : List A) → Has x l → (j : ℕ) × (j < length l) × (get_or l j d ≡ x)
  has_get_d x [] h = absurd h
  has_get_d x (y ∷ l) (inl e) = (0, omega arith, sym e)
  has_get_d x (y ∷ l) (inr h) = let r = has_get_d x l h in (suc r.0, omega (arith, r.1), r.2)

-- ---- the least
pub least_le : (x : ℕ) (xs : List ℕ) → Has x xs → least xs ≤ x
least_le x [] h = absurd h
least_le x (y ∷ []) (inl e) = omega (arith, e)
least_le x (y ∷ []) (inr h) = absurd h
least_le x (y ∷ z ∷ zs) (inl e) = omega (arith, e)
least_le x (y ∷ z ∷ zs) (inr h) = omega (arith, least_le x (z ∷ zs) h)

pub least_reached : (y : ℕ) (ys : List ℕ) → Has (least (y ∷ ys)) (y ∷ ys)
least_reached y [] = inl refl
least_reached y (z ∷ zs) = go (leb y (least (z ∷ zs))) refl (least_reached z zs)
  where
    go : (b : Bool) → leb y (least (z ∷ zs)) ≡ b → Has (least (z ∷ zs)) (z ∷ zs) → Has (min y (least (z ∷ zs))) (y ∷ z ∷ zs)
    go true e h = let le = leb-true y (least (z ∷ zs)) e in inl (omega arith)
    go false e h =
        let lt = leb-false y (least (z ∷ zs)) e in
        let q : least (z ∷ zs) ≡ min y (least (z ∷ zs)) = omega arith in
        inr (subst (λ n. Has n (z ∷ zs)) q h)

-- ---- what is mapped and joined
module _ {A B : Type 0} where
  pub has-map : (f : A → B) (x : A) (xs : List A) → Has x xs → Has (f x) (map f xs)
  has-map f x [] h = absurd h
  has-map f x (z ∷ zs) (inl e) = inl (ap f e)
  has-map f x (z ∷ zs) (inr h) = inr (has-map f x zs h)

  pub map-has : (f : A → B) (y : B) (xs : List A) → Has y (map f xs) → (x : A) × Has x xs × (y ≡ f x)
  map-has f y [] h = absurd h
  map-has f y (z ∷ zs) (inl e) = (z, inl refl, e)
  map-has f y (z ∷ zs) (inr h) = let r = map-has f y zs h in (r.0, inr r.1, r.2)

  pub has_join : (f : A → List B) (x : A) (y : B) (xs : List A) → Has x xs → Has y (f x) → Has y (join_map f xs)
  has_join f x y [] h i = absurd h
  has_join f x y (z ∷ zs) (inl e) i = has_left y (f z) (join_map f zs) (subst (λ u. Has y (f u)) e i)
  has_join f x y (z ∷ zs) (inr h) i = has_right y (f z) (join_map f zs) (has_join f x y zs h i)

  pub join-has : (f : A → List B) (y : B) (xs : List A) → Has y (join_map f xs) → (x : A) × Has x xs × Has y (f x)
  join-has f y [] h = absurd h
  join-has f y (z ∷ zs) h =
      ⊎_elim (λ i. (z, inl refl, i)) (λ i. let r = join-has f y zs i in (r.0, inr r.1, r.2)) (has_append y (f z) (join_map f zs) h)

  -- what is equal on each element gives one list
  pub map_same : (f g : A → B) (xs : List A) → ((x : A) → Has x xs → f x ≡ g x) → map f xs ≡ map g xs
  map_same f g [] e = refl
  map_same f g (x ∷ xs) e = ap₂ {C = List B} (λ a l. a ∷ l) (e x (inl refl)) (map_same f g xs (λ y i. e y (inr i)))

  pub map_append : (f : A → B) (xs ys : List A) → map f (xs ++ ys) ≡ map f xs ++ map f ys
  map_append f [] ys = refl
  map_append f (x ∷ xs) ys = ap {B = List B} (λ l. f x ∷ l) (map_append f xs ys)

  pub map-take : (f : A → B) (n : ℕ) (xs : List A) → map f (take n xs) ≡ take n (map f xs)
  map-take f zero xs = refl
  map-take f (suc n) [] = refl
  map-take f (suc n) (x ∷ xs) = ap {B = List B} (λ l. f x ∷ l) (map-take f n xs)

  pub join_append : (f : A → List B) (xs ys : List A) → join_map f (xs ++ ys) ≡ join_map f xs ++ join_map f ys
  join_append f [] ys = refl
  join_append f (x ∷ xs) ys = ap {B = List B} (λ l. f x ++ l) (join_append f xs ys) ∙ sym (append_assoc (f x) (join_map f xs) (join_map f ys))

  pub join-same : (f g : A → List B) (xs : List A) → ((x : A) → Has x xs → f x ≡ g x) → join_map f xs ≡ join_map g xs
  join-same f g [] e = refl
  join-same f g (x ∷ xs) e = ap₂ (λ l m. l ++ m) (e x (inl refl)) (join-same f g xs (λ y i. e y (inr i)))

  pub joined_map : (f : A → List B) (xs : List A) → joined (map f xs) ≡ join_map f xs
  joined_map f [] = refl
  joined_map f (x ∷ xs) = ap (λ l. f x ++ l) (joined_map f xs)

pub join_map_lem : {A B C : Type 0} (f : B → List C) (g : A → B) (xs : List A) → join_map f (map g xs) ≡ join_map (λ x. f (g x)) xs
join_map_lem f g [] = refl
join_map_lem f g (x ∷ xs) = ap (λ l. f (g x) ++ l) (join_map_lem f g xs)

-- ---- ends of lists
pub last_has : {A : Type 0} (p : A) (x : A) (xs : List A) → Has (last_or p (x ∷ xs)) (x ∷ xs)
last_has p x [] = inl refl
last_has p x (y ∷ ys) = inr (last_has x y ys)

pub last_snoc : {A : Type 0} (d : A) (w : List A) (c : A) → last_or d (w ++ (c ∷ [])) ≡ c
last_snoc d [] c = refl
last_snoc d (x ∷ w) c = last_snoc x w c

pub last_append : {A : Type 0} (d : A) (w c : List A) → last_or d (w ++ c) ≡ last_or (last_or d w) c
last_append d [] c = refl
last_append d (x ∷ w) c = last_append x w c

pub up_snoc : (w : List ℕ) (c : ℕ) → up (w ++ (c ∷ [])) ≡ w
up_snoc w c = take_at w (c ∷ []) (pred (length (w ++ (c ∷ [])))) (omega (arith, length-append w (c ∷ [])))

pub up_last : (x : ℕ) (d : List ℕ) → x ∷ d ≡ up (x ∷ d) ++ (last_or x d ∷ [])
up_last x [] = refl
up_last x (y ∷ d) = ap {B = List ℕ} (λ l. x ∷ l) (up_last y d)

pub snoc_inj : (a b : List ℕ) (x y : ℕ) → a ++ (x ∷ []) ≡ b ++ (y ∷ []) → (a ≡ b) × (x ≡ y)
snoc_inj a b x y e = (sym (up_snoc a x) ∙ ap up e ∙ up_snoc b y, sym (last_snoc 0 a x) ∙ ap (last_or 0) e ∙ last_snoc 0 b y)

-- ---- counting
pub has-count : (i n x : ℕ) → i ≤ x → x < i + n → Has x (count i n)
has-count i zero x le lt = let z : ⊥ = omega arith in absurd z
has-count i (suc n) x le lt = go (leb x i) refl (λ l. has-count (suc i) n x l (omega arith))
  where
    go : (b : Bool) → leb x i ≡ b → (suc i ≤ x → Has x (count (suc i) n)) → Has x (count i (suc n))
    go true e ih = inl (omega (arith, leb-true x i e))
    go false e ih = inr (ih (leb-false x i e))

pub count-has : (i n x : ℕ) → Has x (count i n) → (i ≤ x) × (x < i + n)
count-has i zero x h = absurd h
count-has i (suc n) x (inl e) = (omega arith, omega arith)
count-has i (suc n) x (inr h) = let r = count-has (suc i) n x h in (omega (arith, r.0), omega (arith, r.1))
