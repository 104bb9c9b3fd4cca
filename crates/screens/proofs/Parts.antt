-- Counts with their words, and indents. Assumes nothing.
use Prim.Native.Nat.{ℕ, ◌+◌, ◌*◌, ◌-◌, ◌≤◌}
use native.Mathlib.Omega.{arith}
use mathlib.Core.Path.{◌≡◌, refl, ◌∙◌, ap}
use mathlib.Core.List.{List, [], ◌∷◌, ◌++◌}
use lib.ListN.{replicate, replicate-append-replicate}
use borrow.Author.Tests.{eq-eqb, ne_eqb}
use Rattle.grammar.specs.Text.{space, decimal}
use Rattle.screens.specs.Screens.{counted, indent}

-- A wrong definition is refused first by the sample that it breaks, so the samples stand before the laws.

module _ (n : ℕ) (one more : List ℕ) where
  -- One is counted by the word for one.
  pub counted-one : n ≡ 1 → decimal n ++ (space ∷ one) ≡ counted n one more
  unfolding counted
  counted-one e = rw (eq-eqb n 1 e, counted) refl

  -- Any other number is counted by the word for more.
  pub counted-more : (n ≡ 1 → ⊥) → decimal n ++ (space ∷ more) ≡ counted n one more
  unfolding counted
  counted-more e = rw (ne_eqb n 1 e, counted) refl

-- The first level is not indented.
pub indent-first : [] ≡ indent 1
unfolding indent
indent-first = refl

-- Each level after it is indented by two spaces more.
pub indent-more : (l : ℕ) → 1 ≤ l → indent l ++ (space ∷ space ∷ []) ≡ indent (l + 1)
unfolding indent
indent-more l le =
    let two : 2 * (l - 1) + 2 ≡ 2 * (l + 1 - 1) = omega arith in
    replicate-append-replicate (2 * (l - 1)) 2 space ∙ ap (λ n. replicate n space) two

-- A level that lies as far below the first is indented alike.
pub indent-same : (l k : ℕ) → l - 1 ≡ k - 1 → indent l ≡ indent k
unfolding indent
indent-same l k e = ap (λ n. replicate (2 * n) space) e
