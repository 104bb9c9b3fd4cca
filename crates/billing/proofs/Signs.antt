-- A signed number of 64 bits as text: its digits, or a hyphen and its size, as they are computed. Assumes nothing.
use Prim.Native.Nat.{ℕ, suc, ◌+◌, ◌-◌, ◌^◌, ◌<◌}
use native.Mathlib.Omega.{arith}
use mathlib.Core.Path.{◌≡◌, refl, sym, ◌∙◌, ap, ap₂, subst}
use mathlib.Core.Bool.{true, false, cond, true≢false}
use mathlib.Core.List.{◌∷◌}
use lib.Dec.{T}
use lib.IntN.{ℤ, pos, negsuc, nat_abs, ◌-ℤ◌}
use lib.Signed.{lt_z, non_neg}
use mir.Syntax.{w64}
use mir.Val.{Fits, SFits, to_z, of_z}
use mir.Facts.{to_z-of_z}
use borrow.Author.Tests.{ltb-true, le-ltb}
use Rattle.grammar.specs.Text.{hyphen, decimal, signed_text}
use Rattle.billing.specs.Billing.{sums_text}

-- the number as 64 bits hold it
abbrev pub held : ℤ → ℤ
held v = to_z w64 (of_z w64 v)

-- what a number below 0 lacks of −1: one less than its size
abbrev pub lacking : ℤ → ℤ
lacking v = negsuc 0 -ℤ held v

minus_one : (n : ℕ) → negsuc 0 -ℤ negsuc n ≡ pos n
minus_one n = ap (λ b. cond b (negsuc (1 - suc (suc n))) (pos (suc n - 1))) (le-ltb (suc n) 1 (omega arith)) ∙ ap pos (omega arith)

-- A number fits, and the natural number that it is cast to.
abbrev pub Cast : ℤ → Type 0
Cast z = T (non_neg z) × Fits w64 (nat_abs z)

module _ (v : ℤ) (f : SFits w64 v) where
  -- A number below 0 is minus the next of a natural number, which is what it lacks of −1.
  below : lt_z (held v) (pos 0) ≡ true → (n : ℕ) × (v ≡ negsuc n) × (n < 2 ^ 63) × (lacking v ≡ pos n)
  below e = go v f (ap (λ z. lt_z z (pos 0)) (sym (to_z-of_z {w = w64} f)) ∙ e)
    where
      go : (z : ℤ) → SFits w64 z → lt_z z (pos 0) ≡ true → (n : ℕ) × (z ≡ negsuc n) × (n < 2 ^ 63) × (lacking z ≡ pos n)
      go (pos n) g l = let z : ⊥ = omega (arith, ltb-true n 0 l) in absurd z
      go (negsuc n) g l = (n, refl, g.sfits, ap (λ z. negsuc 0 -ℤ z) (to_z-of_z {w = w64} g) ∙ minus_one n)

  module _ (e : lt_z (held v) (pos 0) ≡ true) where
    pub lacking_fits : SFits w64 (lacking v)
    lacking_fits = let (n, _, small, is) = below e in subst (SFits w64) (sym is) (record { sfits = small })

    pub lacking_held : (n : ℕ) × (v ≡ negsuc n) × (n < 2 ^ 63) × (held (lacking v) ≡ pos n)
    lacking_held = let (n, is, small, l) = below e in (n, is, small, to_z-of_z {w = w64} lacking_fits ∙ l)

    pub lacking_cast : Cast (held (lacking v))
    lacking_cast = let (n, _, small, l) = lacking_held in subst Cast (sym l) (tt, record { fits = omega (arith, small) })

    -- Its size is one more, and has room.
    pub size_fits : Fits w64 (nat_abs (held (lacking v)) + 1)
    size_fits = let (n, _, small, l) = lacking_held in record { fits = omega (arith, small, ap nat_abs l) }

    pub below_text : hyphen ∷ decimal (nat_abs (held (lacking v)) + 1) ≡ signed_text v
    unfolding signed_text
    below_text =
        let (n, is, _, l) = lacking_held in
        let size : nat_abs (held (lacking v)) + 1 ≡ suc n = omega (arith, ap nat_abs l) in
        ap (λ k. hyphen ∷ decimal k) size ∙ sym (ap signed_text is)

  module _ (e : lt_z (held v) (pos 0) ≡ false) where
    -- Any other is a natural number.
    not_below : (n : ℕ) × (v ≡ pos n) × (n < 2 ^ 63) × (held v ≡ pos n)
    not_below = go v f (ap (λ z. lt_z z (pos 0)) (sym (to_z-of_z {w = w64} f)) ∙ e) (to_z-of_z {w = w64} f)
      where
        go : (z : ℤ) → SFits w64 z → lt_z z (pos 0) ≡ false → held v ≡ z → (n : ℕ) × (z ≡ pos n) × (n < 2 ^ 63) × (held v ≡ pos n)
        go (pos n) g l h = (n, refl, g.sfits, h)
        go (negsuc n) g l h = absurd (true≢false l)

    pub not_below_cast : Cast (held v)
    not_below_cast = let (n, _, small, h) = not_below in subst Cast (sym h) (tt, record { fits = omega (arith, small) })

    pub not_below_text : decimal (nat_abs (held v)) ≡ signed_text v
    unfolding signed_text
    not_below_text = let (n, is, _, h) = not_below in ap (λ z. decimal (nat_abs z)) h ∙ sym (ap signed_text is)

-- What 64 bits hold of a number that fits is the number, in each text.
pub held_text : (v : ℤ) → SFits w64 v → signed_text (held v) ≡ signed_text v
held_text v f = ap signed_text (to_z-of_z {w = w64} f)

pub held_sums : (a b : ℤ) → SFits w64 a → SFits w64 b → sums_text (held a) (held b) ≡ sums_text a b
held_sums a b f g = ap₂ sums_text (to_z-of_z {w = w64} f) (to_z-of_z {w = w64} g)
