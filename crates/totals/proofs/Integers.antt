-- Signed numbers: their size, their range, and sums of four. Assumes nothing.
use Prim.Native.Nat.{ℕ, zero, suc, ◌+◌, ◌-◌, ◌^◌, ◌≤◌}
use native.Mathlib.Omega.{arith}
use mathlib.Core.Path.{◌≡◌, refl, sym, ◌∙◌, ap}
use mathlib.Core.Bool.{Bool, true, false, ◌&&◌, cond}
use lib.Dec.{leb, ltb, leb-zero, leb-suc-zero, leb-suc-suc}
use lib.IntN.{ℤ, pos, negsuc, nat_abs, sub_ℕ, ◌+ℤ◌, +ℤ_assoc, +ℤ_comm}
use lib.Signed.{mag}
use borrow.Author.Tests.{leb-true, le-leb, ltb-true}
use mir.Syntax.{w64}
use mir.Val.{SFits}
use Rattle.totals.specs.Sums.{within}

-- A wrong definition is refused first by the sample that it breaks, so the samples stand before every law.

-- A number lies from −n to n exactly if its size is at most n.
pub within-size : (n : ℕ) (v : ℤ) → within n v ≡ leb (nat_abs v) n
unfolding within
within-size zero (pos a) = ap (λ b. b && leb a zero) (leb-zero a)
within-size zero (negsuc a) = sym (leb-suc-zero a)
within-size (suc n) (pos a) = refl
within-size (suc n) (negsuc a) = and-true (leb a n) ∙ sym (leb-suc-suc a n)
  where
    and-true : (b : Bool) → b && true ≡ b
    and-true true = refl
    and-true false = refl

pub within_le : (n : ℕ) (v : ℤ) → within n v ≡ true → nat_abs v ≤ n
within_le n v h = leb-true (nat_abs v) n (sym (within-size n v) ∙ h)

pub le_within : (n : ℕ) (v : ℤ) → nat_abs v ≤ n → within n v ≡ true
le_within n v h = within-size n v ∙ le-leb (nat_abs v) n h

-- A difference is no larger than both numbers together.
size_difference : (a b : ℕ) → nat_abs (sub_ℕ a b) ≤ a + b
size_difference a b = go (ltb a b) refl
  where
    go : (c : Bool) → ltb a b ≡ c → nat_abs (cond c (negsuc (b - suc a)) (pos (a - b))) ≤ a + b
    go true e = omega (arith, ltb-true a b e)
    go false e = omega arith

-- A sum is no larger than the sizes together.
pub size_sum : (a b : ℤ) → nat_abs (a +ℤ b) ≤ nat_abs a + nat_abs b
size_sum (pos a) (pos b) = omega arith
size_sum (pos a) (negsuc b) = size_difference a (suc b)
size_sum (negsuc a) (pos b) = omega (arith, size_difference b (suc a))
size_sum (negsuc a) (negsuc b) = omega arith

-- What is no larger than 2^62 fits into 64 bits with its sign.
pub sfits : (z : ℤ) → nat_abs z ≤ 2 ^ 62 → SFits w64 z
sfits z h = record { sfits = omega (arith, mag-size z) }
  where
    mag-size : (z : ℤ) → mag z ≤ nat_abs z
    mag-size (pos n) = omega arith
    mag-size (negsuc n) = omega arith

-- In a sum of two sums the inner two change places.
pub sum_of_four : (a b c d : ℤ) → (a +ℤ b) +ℤ (c +ℤ d) ≡ (a +ℤ c) +ℤ (b +ℤ d)
sum_of_four a b c d =
    +ℤ_assoc a b (c +ℤ d)
    ∙ ap (λ x. a +ℤ x) (sym (+ℤ_assoc b c d) ∙ ap (λ x. x +ℤ d) (+ℤ_comm b c) ∙ +ℤ_assoc c b d)
    ∙ sym (+ℤ_assoc a c (b +ℤ d))
