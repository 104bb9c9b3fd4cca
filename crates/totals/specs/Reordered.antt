-- Two lists of the same elements in another order. Assumes nothing.
use Rattle.std.specs.Prelude.{List, [], ◌∷◌}

-- the same elements in another order: any order is reached by swapping neighbours, one swap after another
pub data Reordered {A : Type 0} : List A → List A → Type 0 where
  empty : Reordered [] []
  same_first : (x : A) {xs ys : List A} → Reordered xs ys → Reordered (x ∷ xs) (x ∷ ys)
  swapped : (x y : A) (xs : List A) → Reordered (x ∷ y ∷ xs) (y ∷ x ∷ xs)
  one_after_another : {xs ys zs : List A} → Reordered xs ys → Reordered ys zs → Reordered xs zs
