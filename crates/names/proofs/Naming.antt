-- Which labels have names. Assumes nothing.
use Prim.Native.Nat.{ℕ, ◌+◌, ◌-◌, ◌≤◌, ◌<◌}
use native.Mathlib.Omega.{arith}
use mathlib.Core.Path.{◌≡◌, refl}
use borrow.Author.Tests.{le-leb, lt-leb}
use Rattle.grammar.specs.Text.{decimal}
use Rattle.grammar.specs.Names.{named, name_of, name_text}

-- Label 0 has none.
pub no_name_below : (l : ℕ) → l < 1 → decimal l ≡ name_text l
unfolding name_text
no_name_below l lt = rw (lt-leb 1 l lt, name_text) refl

-- Label 1 and those after it, up to the last, have one each.
pub has_name : (l k : ℕ) → l ≡ k + 1 → l ≤ named → name_of k ≡ name_text l
unfolding name_text
has_name l k e most =
    let one : 1 ≤ l = omega arith in
    let before : l - 1 ≡ k = omega arith in
    rw (le-leb 1 l one, le-leb l named most, name_text, before) refl

-- The labels after those have none.
pub no_name_above : (l : ℕ) → named < l → decimal l ≡ name_text l
unfolding name_text
no_name_above l lt = let one : 1 ≤ l = omega arith in rw (le-leb 1 l one, lt-leb l named lt, name_text) refl
