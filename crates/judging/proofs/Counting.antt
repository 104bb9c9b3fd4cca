-- Counting from a number on. Assumes nothing.
use Prim.Native.Nat.{ℕ, suc, ◌+◌, ◌-◌, ◌≤◌, ◌<◌}
use native.Mathlib.Numerals.{add-one}
use native.Mathlib.Omega.{arith}
use mathlib.Core.Path.{◌≡◌, sym, ◌∙◌, ap}
use mathlib.Core.List.{[], ◌∷◌}
use Rattle.paper.specs.Lists.{count}

pub count-from : (i n : ℕ) → i < n → count i (n - i) ≡ i ∷ count (i + 1) (n - (i + 1))
count-from i n lt =
    let q : n - i ≡ suc (n - (i + 1)) = omega arith in
    ap (count i) q ∙ ap (λ j. i ∷ count j (n - (i + 1))) (sym (add-one i))

pub count-done : (i n : ℕ) → n ≤ i → count i (n - i) ≡ []
count-done i n le = let q : n - i ≡ 0 = omega arith in ap (count i) q
