-- Signed numbers as 64 bits hold them: a negative one by its size, and the two tests of a range. Assumes nothing.
use Prim.Native.Nat.{ℕ, zero, suc, ◌-◌, ◌^◌, ◌<◌, ◌≤◌}
use native.Mathlib.Omega.{arith}
use mathlib.Core.Path.{◌≡◌, refl, sym, ◌∙◌, ap, subst}
use mathlib.Core.Bool.{true, false, ◌&&◌}
use mathlib.Core.List.{List}
use lib.IntN.{ℤ, pos, negsuc, neg_ℤ, ◌-ℤ◌, +ℤ_idl}
use lib.Signed.{le_z}
use mir.Syntax.{w64}
use mir.Val.{SFits, to_z, of_z}
use mir.Facts.{to_z_pos, to_z-of_z}
use borrow.Author.Tests.{lt-ltb, le-ltb}
use Rattle.paper.specs.Format.{number, signed}
use Rattle.totals.specs.Sums.{within}
use Rattle.totals.specs.Rows.{signed_bits}

-- ---- from 64 bits
minus_one : (k : ℕ) → negsuc 0 -ℤ pos k ≡ negsuc k
minus_one zero = refl
minus_one (suc k) = ap (λ n. negsuc (suc n)) (omega arith)

-- what the bits lack of 2^64, taken from −1, in the range of 64 bits
pub lacks : (k : ℕ) → k < 2 ^ 63 → negsuc 0 -ℤ to_z w64 k ≡ negsuc k
lacks k h = ap (λ z. negsuc 0 -ℤ z) (to_z_pos w64 h) ∙ minus_one k

pub lacks_fits : (k : ℕ) → k < 2 ^ 63 → SFits w64 (negsuc 0 -ℤ to_z w64 k)
lacks_fits k h = subst (SFits w64) (sym (lacks k h)) (record { sfits = h })

pub low_bits : (x : ℕ) → x < 2 ^ 63 → to_z w64 x ≡ signed_bits x
low_bits x h = to_z_pos w64 h ∙ ap (λ b. elim b as (λ _. ℤ) [ true ↦ pos x | false ↦ negsuc (2 ^ 64 - 1 - x) ]) (sym (lt-ltb x (2 ^ 63) h))

pub high_bits : (x : ℕ) → 2 ^ 63 ≤ x → x < 2 ^ 64 → to_z w64 (of_z w64 (negsuc 0 -ℤ to_z w64 (18446744073709551615 - x))) ≡ signed_bits x
high_bits x h f =
    let k : 18446744073709551615 - x < 2 ^ 63 = omega (arith, h, f) in
    to_z-of_z {w = w64} (lacks_fits (18446744073709551615 - x) k) ∙ lacks (18446744073709551615 - x) k
    ∙ ap (λ b. elim b as (λ _. ℤ) [ true ↦ pos x | false ↦ negsuc (2 ^ 64 - 1 - x) ]) (sym (le-ltb x (2 ^ 63) h))

-- ---- the tests of a range
-- −n, as it is computed
down : (n : ℕ) → n < 2 ^ 63 → pos 0 -ℤ to_z w64 n ≡ neg_ℤ (pos n)
down n h = ap (λ z. pos 0 -ℤ z) (to_z_pos w64 h) ∙ +ℤ_idl (neg_ℤ (pos n))

neg_fits : (n : ℕ) → n < 2 ^ 63 → SFits w64 (neg_ℤ (pos n))
neg_fits zero h = record { sfits = h }
neg_fits (suc n) h = record { sfits = omega (arith, h) }

pub down_fits : (n : ℕ) → n < 2 ^ 63 → SFits w64 (pos 0 -ℤ to_z w64 n)
down_fits n h = subst (SFits w64) (sym (down n h)) (neg_fits n h)

module _ (n : ℕ) (v : ℤ) (h : n < 2 ^ 63) (f : SFits w64 v) where
  tested : le_z (to_z w64 (of_z w64 (pos 0 -ℤ to_z w64 n))) (to_z w64 (of_z w64 v)) ≡ le_z (neg_ℤ (pos n)) v
  tested i = le_z ((to_z-of_z {w = w64} (down_fits n h) ∙ down n h) i) (to_z-of_z {w = w64} f i)

  pub too_low : le_z (to_z w64 (of_z w64 (pos 0 -ℤ to_z w64 n))) (to_z w64 (of_z w64 v)) ≡ false
      → le_z (to_z w64 (of_z w64 (pos 0 -ℤ to_z w64 n))) (to_z w64 (of_z w64 v)) ≡ within n v
  unfolding within
  too_low e = e ∙ sym (ap (λ b. b && le_z v (pos n)) (sym tested ∙ e))

  pub not_too_low : le_z (to_z w64 (of_z w64 (pos 0 -ℤ to_z w64 n))) (to_z w64 (of_z w64 v)) ≡ true
      → le_z (to_z w64 (of_z w64 v)) (to_z w64 n) ≡ within n v
  unfolding within
  not_too_low e =
      ap (λ z. le_z z (to_z w64 n)) (to_z-of_z {w = w64} f) ∙ ap (le_z v) (to_z_pos w64 h)
      ∙ sym (ap (λ b. b && le_z v (pos n)) (sym tested ∙ e))

-- eight bytes read as one number, with its sign
pub signed_bits_lem : (b : List ℕ) → signed_bits (number b) ≡ signed b
unfolding signed
signed_bits_lem b = refl
