-- Types by first row, met one row after the other. Assumes nothing.
use Prim.Native.Nat.{ℕ, zero, suc, ◌≤◌, ◌<◌, pred}
use native.Mathlib.Nat.{not-suc-le-zero, le_of_suc-le-suc}
use native.Mathlib.Omega.{arith}
use mathlib.Core.Path.{◌≡◌, refl, sym, ◌∙◌, ap, subst, subst₂}
use mathlib.Core.Logic.{inl, inr, ⊎_elim}
use mathlib.Core.Bool.{Bool, true, false, ◌||◌, not}
use mathlib.Core.List.{List, [], ◌∷◌, ◌++◌, map, append-nil}
use lib.ListN.{length, get_or, take, length-take}
use Rattle.paper.specs.Lists.{Has, keep, any, same, distinct, ways}
use Rattle.paper.proofs.Lists.{same_eq, same_self, eq_same, has_any, any_has}
use Rattle.paper.proofs.Forest.{above}
use Rattle.paper.proofs.Shapes.{ways_kin, self}
use Rattle.paper.proofs.Papers.{same_test}

-- ---- the way of element i
-- the way before element i
abbrev pub before : List (List ℕ) → ℕ → List ℕ
before ws zero = []
before ws (suc i) = get_or ws i []

abbrev pub before_or : List ℕ → List (List ℕ) → ℕ → List ℕ
before_or w ws zero = w
before_or w ws (suc i) = get_or ws i []

ways-from : (w : List ℕ) (xs : List (ℕ × ℕ)) (i : ℕ) → i < length xs
    → get_or (ways w xs) i [] ≡ take (pred (get_or (map (λ (x : ℕ × ℕ). x.0) xs) i 0)) (before_or w (ways w xs) i) ++ (get_or (map (λ (x : ℕ × ℕ). x.1) xs) i 0 ∷ [])
ways-from w [] i lt = absurd (not-suc-le-zero lt)
ways-from w (x ∷ xs) zero lt = refl
ways-from w (x ∷ xs) (suc zero) lt = ways-from (take (pred x.0) w ++ (x.1 ∷ [])) xs zero (le_of_suc-le-suc lt)
ways-from w (x ∷ xs) (suc (suc i)) lt = ways-from (take (pred x.0) w ++ (x.1 ∷ [])) xs (suc i) (le_of_suc-le-suc lt)

pub ways-at : (xs : List (ℕ × ℕ)) (i : ℕ) → i < length xs
    → get_or (ways [] xs) i [] ≡ take (pred (get_or (map (λ (x : ℕ × ℕ). x.0) xs) i 0)) (before (ways [] xs) i) ++ (get_or (map (λ (x : ℕ × ℕ). x.1) xs) i 0 ∷ [])
ways-at xs zero lt = ways-from [] xs zero lt
ways-at xs (suc i) lt = ways-from [] xs (suc i) lt

take-ways : (n : ℕ) (w : List ℕ) (xs : List (ℕ × ℕ)) → take n (ways w xs) ≡ ways w (take n xs)
take-ways zero w xs = refl
take-ways (suc n) w [] = refl
take-ways (suc n) w (x ∷ xs) =
    let v = take (pred x.0) w ++ (x.1 ∷ []) in ap {B = List (List ℕ)} (λ l. v ∷ l) (take-ways n v xs)

-- what stands on the way of one of the first n elements is the way of one of them
pub closed : (xs : List (ℕ × ℕ)) (n : ℕ) (u : List ℕ) → Has u (take n (ways [] xs)) → (k : ℕ) → 0 < k → k ≤ length u → Has (take k u) (take n (ways [] xs))
closed xs n u h k pos le =
    let e = take-ways n [] xs in
    ⊎_elim (λ a. subst₂ (λ x l. Has x l) a.2 (sym e) a.1)
    (λ z. let b : ⊥ = omega (arith, ap length z.0, length-take k u, length-take {A = ℕ} k []) in absurd b)
    (above self self [] [] u (ways [] (take n xs)) k (ways_kin [] (take n xs)) (subst (λ l. Has u l) e h))

-- no way is empty
pub way_whole : (w : List ℕ) (xs : List (ℕ × ℕ)) (u : List ℕ) → Has u (ways w xs) → (v : List ℕ) × (c : ℕ) × (u ≡ v ++ (c ∷ []))
way_whole w [] u h = absurd h
way_whole w (x ∷ xs) u (inl e) = (take (pred x.0) w, x.1, e)
way_whole w (x ∷ xs) u (inr h) = way_whole (take (pred x.0) w ++ (x.1 ∷ [])) xs u h

-- ---- one more list among the distinct
keep_append : (p : List ℕ → Bool) (xs ys : List (List ℕ)) → keep p (xs ++ ys) ≡ keep p xs ++ keep p ys
keep_append p [] ys = refl
keep_append p (x ∷ xs) ys = go (p x) refl (keep_append p xs ys)
  where
    go : (b : Bool) → p x ≡ b → keep p (xs ++ ys) ≡ keep p xs ++ keep p ys
        → elim b as (λ _. List (List ℕ)) [ true ↦ x ∷ keep p (xs ++ ys) | false ↦ keep p (xs ++ ys) ]
        ≡ elim b as (λ _. List (List ℕ)) [ true ↦ x ∷ keep p xs | false ↦ keep p xs ] ++ keep p ys
    go true e ih = ap {B = List (List ℕ)} (λ l. x ∷ l) ih
    go false e ih = ih

-- the distinct of a longer list begin with those of the shorter
pub distinct_prefix : (xs ys : List (List ℕ)) → (zs : List (List ℕ)) × (distinct (xs ++ ys) ≡ distinct xs ++ zs)
distinct_prefix [] ys = (distinct ys, refl)
distinct_prefix (x ∷ xs) ys =
    let (zs, e) = distinct_prefix xs ys in
    let p : List ℕ → Bool = λ y. not (same x y) in
    (keep p zs, ap {B = List (List ℕ)} (λ l. x ∷ l) (ap (keep p) e ∙ keep_append p (distinct xs) zs))

same-sym : (x y : List ℕ) → same x y ≡ same y x
same-sym x y = same_test (same x y) (same y x) (λ e. eq_same (sym (same_eq x y e))) (λ e. eq_same (sym (same_eq y x e)))

-- a list of v, unless it is known
abbrev unless : Bool → List ℕ → List (List ℕ)
unless true v = []
unless false v = v ∷ []

-- what one more list adds
abbrev extra : List (List ℕ) → List ℕ → List (List ℕ)
extra xs v = unless (any (same v) xs) v

extra_step : (x : List ℕ) (xs : List (List ℕ)) (v : List ℕ) → keep (λ y. not (same x y)) (extra xs v) ≡ extra (x ∷ xs) v
extra_step x xs v = go (any (same v) xs) (same x v) refl
  where
    one : (c : Bool) → same x v ≡ c → keep (λ y. not (same x y)) (v ∷ []) ≡ unless c v
    one true e = rw (e, keep) refl
    one false e = rw (e, keep) refl

    go : (a c : Bool) → same x v ≡ c → keep (λ y. not (same x y)) (unless a v) ≡ unless (same v x || a) v
    go true c e = some (same v x)
      where
        some : (d : Bool) → ◌≡◌ {A = List (List ℕ)} [] (unless (d || true) v)
        some true = refl
        some false = refl
    go false c e = one c e ∙ ap (λ d. unless d v) (sym e ∙ same-sym x v ∙ plain (same v x))
      where
        plain : (d : Bool) → d ≡ d || false
        plain true = refl
        plain false = refl

distinct_snoc : (xs : List (List ℕ)) (v : List ℕ) → distinct (xs ++ (v ∷ [])) ≡ distinct xs ++ extra xs v
distinct_snoc [] v = refl
distinct_snoc (x ∷ xs) v =
    let p : List ℕ → Bool = λ y. not (same x y) in
    ap {B = List (List ℕ)} (λ l. x ∷ l) (ap (keep p) (distinct_snoc xs v) ∙ keep_append p (distinct xs) (extra xs v) ∙ ap (λ l. keep p (distinct xs) ++ l) (extra_step x xs v))

pub distinct_known : (xs : List (List ℕ)) (v : List ℕ) → Has v xs → distinct (xs ++ (v ∷ [])) ≡ distinct xs
distinct_known xs v h =
    distinct_snoc xs v ∙ ap (λ b. distinct xs ++ unless b v) (has_any (same v) v xs h (same_self v))
    ∙ append-nil (distinct xs)

pub distinct_new : (xs : List (List ℕ)) (v : List ℕ) → (Has v xs → ⊥) → distinct (xs ++ (v ∷ [])) ≡ distinct xs ++ (v ∷ [])
distinct_new xs v out =
    distinct_snoc xs v ∙ ap (λ b. distinct xs ++ unless b v) (none (any (same v) xs) refl)
  where
    none : (b : Bool) → any (same v) xs ≡ b → any (same v) xs ≡ false
    none true e = let (x, h, q) = any_has (same v) xs e in absurd (out (subst (λ z. Has z xs) (sym (same_eq v x q)) h))
    none false e = e
