-- Signed numbers added up, and their range. Assumes nothing.
use Rattle.std.specs.Prelude.{ℕ, Bool, ◌&&◌, List, [], ◌∷◌, ℤ, pos, neg_ℤ, ◌+ℤ◌}
use Rattle.std.specs.Int.Signed.{le_z}

-- what the figures of the elements add up to
abbrev pub sum_of : {A : Type 0} → (A → ℤ) → List A → ℤ
sum_of figure [] = pos 0
sum_of figure (x ∷ xs) = figure x +ℤ sum_of figure xs

-- the number lies from −n to n, both allowed
unfoldable pub within : ℕ → ℤ → Bool
within n v = le_z (neg_ℤ (pos n)) v && le_z v (pos n)
