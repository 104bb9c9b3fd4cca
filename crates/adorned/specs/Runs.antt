-- What is read along the rows' type numbers: the children of type k between a row of type p and the next, and the level of each type. Assumes nothing.
use Rattle.std.specs.Prelude.{ℕ, suc, ◌<◌, min, max, ◌≡◌, true, false, List, [], ◌∷◌, eqb, get_or, Option, None, Some}
use Rattle.paper.specs.Lists.{least, most}
use Rattle.adorned.specs.declared.Range.{Range}

-- those of type k before the next of type p
abbrev pub lead : ℕ → ℕ → List ℕ → ℕ
lead p k [] = 0
lead p k (x ∷ xs) = elim (eqb x p) [ true ↦ 0 | false ↦ elim (eqb x k) [ true ↦ suc (lead p k xs) | false ↦ lead p k xs ] ]

-- for each of type p, those of type k after it and before the next
abbrev pub runs : ℕ → ℕ → List ℕ → List ℕ
runs p k [] = []
runs p k (x ∷ xs) = elim (eqb x p) [ true ↦ lead p k xs ∷ runs p k xs | false ↦ runs p k xs ]

-- these are the least and the greatest of the counts, zeros where there is none
abbrev pub CountRange : List ℕ → ℕ → ℕ → Type 0
CountRange counts lo hi = (lo ≡ least counts) × (hi ≡ most (λ x. x) counts)

-- the range after one more count, of the range of those before, if any
abbrev pub with_count : Option Range → ℕ → Range
with_count None c = record { least = c; greatest = c }
with_count (Some r) c = record { least = min r.least c; greatest = max r.greatest c }

-- at each row's type stands the level of a row of that type
abbrev pub TypeLevels : ℕ → List ℕ → List ℕ → List ℕ → Type 0
TypeLevels rows levels types found = (i : ℕ) → i < rows
    → (j : ℕ) × (j < rows) × (get_or types j 0 ≡ get_or types i 0) × (get_or found (get_or types i 0) 0 ≡ get_or levels j 0)
