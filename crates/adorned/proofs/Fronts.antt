-- Laws of what a lent list holds while values are stored at its front, one after another. Assumes nothing.
use mathlib.Core.Path.{◌≡◌, refl, ap}
use Prim.Native.Nat.{ℕ, zero, suc, ◌<◌}
use native.Mathlib.Nat.{not-suc-le-zero, le_of_suc-le-suc}
use mathlib.Core.List.{List, [], ◌∷◌, ◌++◌}
use lib.ListN.{length, get_or, set, take, drop}

-- what is lent once the first n of some values stand at its front
abbrev pub front : {A : Type 0} → ℕ → List A → List A → List A
front n new before = take n new ++ drop n before

pub front_next : {A : Type 0} (i : ℕ) (new before : List A) (d : A) → i < length new → i < length before → set (front i new before) i (get_or new i d) ≡ front (suc i) new before
front_next i [] before d l m = absurd (not-suc-le-zero l)
front_next i (x ∷ xs) [] d l m = absurd (not-suc-le-zero m)
front_next zero (x ∷ xs) (y ∷ ys) d l m = refl
front_next {A} (suc i) (x ∷ xs) (y ∷ ys) d l m = ap {B = List A} (λ r. x ∷ r) (front_next i xs ys d (le_of_suc-le-suc l) (le_of_suc-le-suc m))

pub front_long : {A : Type 0} (i : ℕ) (new before : List A) → i < suc (length new) → i < suc (length before) → length (front i new before) ≡ length before
front_long zero new before l m = refl
front_long (suc i) [] before l m = absurd (not-suc-le-zero (le_of_suc-le-suc l))
front_long (suc i) (x ∷ xs) [] l m = absurd (not-suc-le-zero (le_of_suc-le-suc m))
front_long (suc i) (x ∷ xs) (y ∷ ys) l m = ap suc (front_long i xs ys (le_of_suc-le-suc l) (le_of_suc-le-suc m))
