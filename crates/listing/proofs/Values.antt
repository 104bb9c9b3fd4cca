-- A value as text, from its bits. Assumes nothing.
use Prim.Native.Nat.{ℕ, suc, ◌+◌, ◌-◌, ◌^◌, ◌≤◌, ◌<◌}
use native.Mathlib.Omega.{arith}
use mathlib.Core.Path.{◌≡◌, refl, ◌∙◌, ap}
use mathlib.Core.List.{List, ◌∷◌}
use borrow.Author.Tests.{lt-ltb, le-ltb}
use Rattle.paper.specs.Format.{number, signed}
use Rattle.grammar.specs.Text.{hyphen, decimal, signed_text}

module _ (b : List ℕ) (x : ℕ) (is : x ≡ number b) where
  -- A value whose bits are below 2 ^ 63 is not below 0.
  pub not_below : x < 2 ^ 63 → decimal x ≡ signed_text (signed b)
  unfolding signed signed_text
  not_below lt = let small : number b < 2 ^ 63 = omega arith in ap decimal is ∙ rw (lt-ltb (number b) (2 ^ 63) small, signed_text, signed) refl

  -- Any other is below 0, by what is missing to 2 ^ 64.
  pub below : 2 ^ 63 ≤ x → (y : ℕ) → x < 2 ^ 64 → y ≡ 2 ^ 64 - 1 - x + 1 → hyphen ∷ decimal y ≡ signed_text (signed b)
  unfolding signed signed_text
  below le y lt e =
      let large : 2 ^ 63 ≤ number b = omega arith in
      let size : y ≡ suc (2 ^ 64 - 1 - number b) = omega arith in
      rw (le-ltb (number b) (2 ^ 63) large, signed_text, signed) (ap (λ n. hyphen ∷ decimal n) size)
