-- What figures add up to: in parts, in another order, and how large it is. Assumes nothing.
use Prim.Native.Nat.{ℕ, suc, ◌*◌, ◌≤◌, zero-le}
use native.Mathlib.Omega.{arith}
use mathlib.Core.Path.{◌≡◌, refl, sym, ◌∙◌, ap, ap₂}
use mathlib.Core.Logic.{inl, inr}
use mathlib.Core.Bool.{Bool, true, false, not}
use mathlib.Core.List.{List, [], ◌∷◌, ◌++◌}
use lib.ListN.{length}
use lib.IntN.{ℤ, nat_abs, ◌+ℤ◌, +ℤ_assoc, +ℤ_comm}
use Rattle.paper.specs.Lists.{Has, keep}
use Rattle.totals.specs.Sums.{sum_of}
use Rattle.totals.specs.Reordered.{Reordered, empty, same_first, swapped, one_after_another}
use Rattle.totals.proofs.Lists.{put_if}
use Rattle.totals.proofs.Integers.{size_sum, sum_of_four}

-- the first two summands change places
sum_swapped : (a b c : ℤ) → a +ℤ (b +ℤ c) ≡ b +ℤ (a +ℤ c)
sum_swapped a b c = sym (+ℤ_assoc a b c) ∙ ap (λ x. x +ℤ c) (+ℤ_comm a b) ∙ +ℤ_assoc b a c

module _ {A : Type 0} where
  -- Figures that are equal on each element add up to the same.
  pub sum_same : (g h : A → ℤ) (xs : List A) → ((x : A) → Has x xs → g x ≡ h x) → sum_of g xs ≡ sum_of h xs
  sum_same g h [] e = refl
  sum_same g h (x ∷ xs) e = ap₂ (λ a b. a +ℤ b) (e x (inl refl)) (sum_same g h xs (λ y i. e y (inr i)))

  -- Two sums together are the sum of both figures.
  pub sum_both : (g h : A → ℤ) (xs : List A) → sum_of g xs +ℤ sum_of h xs ≡ sum_of (λ x. g x +ℤ h x) xs
  sum_both g h [] = refl
  sum_both g h (x ∷ xs) = sum_of_four (g x) (sum_of g xs) (h x) (sum_of h xs) ∙ ap (λ s. (g x +ℤ h x) +ℤ s) (sum_both g h xs)

  -- What passes a test and what does not add up to the whole.
  pub sum_parts : (g : A → ℤ) (p : A → Bool) (xs : List A) → sum_of g (keep p xs) +ℤ sum_of g (keep (λ x. not (p x)) xs) ≡ sum_of g xs
  sum_parts g p [] = refl
  sum_parts g p (x ∷ xs) = step (keep p xs) (keep (λ y. not (p y)) xs) (p x) ∙ ap (λ s. g x +ℤ s) (sum_parts g p xs)
    where
      step : (ks ls : List A) (b : Bool) → sum_of g (put_if b x ks) +ℤ sum_of g (put_if (not b) x ls) ≡ g x +ℤ (sum_of g ks +ℤ sum_of g ls)
      step ks ls true = +ℤ_assoc (g x) (sum_of g ks) (sum_of g ls)
      step ks ls false = sum_swapped (sum_of g ks) (g x) (sum_of g ls)

  -- Figures of size m at most add up to m for each element at most.
  pub sum_size : (g : A → ℤ) (m : ℕ) (xs : List A) → ((x : A) → Has x xs → nat_abs (g x) ≤ m) → nat_abs (sum_of g xs) ≤ length xs * m
  sum_size g m [] small = zero-le
  sum_size g m (x ∷ xs) small = omega (arith, size_sum (g x) (sum_of g xs), small x (inl refl), sum_size g m xs (λ y i. small y (inr i)))

  -- ---- in another order
  pub sum_reordered : (g : A → ℤ) {xs ys : List A} → Reordered xs ys → sum_of g xs ≡ sum_of g ys
  sum_reordered g empty = refl
  sum_reordered g (same_first x r) = ap (λ s. g x +ℤ s) (sum_reordered g r)
  sum_reordered g (swapped x y xs) = sum_swapped (g x) (g y) (sum_of g xs)
  sum_reordered g (one_after_another r s) = sum_reordered g r ∙ sum_reordered g s

  pub length_reordered : {xs ys : List A} → Reordered xs ys → length xs ≡ length ys
  length_reordered empty = refl
  length_reordered (same_first x r) = ap suc (length_reordered r)
  length_reordered (swapped x y xs) = refl
  length_reordered (one_after_another r s) = length_reordered r ∙ length_reordered s

  reordered_self : (xs : List A) → Reordered xs xs
  reordered_self [] = empty
  reordered_self (x ∷ xs) = same_first x (reordered_self xs)

  pub keep_reordered : (p : A → Bool) {xs ys : List A} → Reordered xs ys → Reordered (keep p xs) (keep p ys)
  keep_reordered p empty = empty
  keep_reordered p (same_first x {xs} {ys} r) = step (keep p xs) (keep p ys) (p x) (keep_reordered p r)
    where
      step : (ks ls : List A) (b : Bool) → Reordered ks ls → Reordered (put_if b x ks) (put_if b x ls)
      step ks ls true r = same_first x r
      step ks ls false r = r
  keep_reordered p (swapped x y xs) = step (keep p xs) (p x) (p y)
    where
      step : (ks : List A) (b c : Bool) → Reordered (put_if b x (put_if c y ks)) (put_if c y (put_if b x ks))
      step ks true true = swapped x y ks
      step ks true false = reordered_self (x ∷ ks)
      step ks false true = reordered_self (y ∷ ks)
      step ks false false = reordered_self ks
  keep_reordered p (one_after_another r s) = one_after_another (keep_reordered p r) (keep_reordered p s)

-- ---- every order is another order: an element may stand at any place, and so each element in turn
unmoved : {A : Type 0} (xs : List A) → Reordered xs xs
unmoved [] = empty
unmoved (x ∷ xs) = same_first x (unmoved xs)

pub moved : {A : Type 0} (x : A) (xs ys : List A) → Reordered (x ∷ xs ++ ys) (xs ++ (x ∷ ys))
moved x [] ys = unmoved (x ∷ ys)
moved x (y ∷ xs) ys = one_after_another (swapped x y (xs ++ ys)) (same_first y (moved x xs ys))
