-- Closest rows told by the rows' levels and types, how many there are, and rows that have none. Assumes nothing.
use Rattle.std.specs.Prelude.{ℕ, ◌<◌, ◌≡◌, Bool, ◌&&◌, ◌||◌, List, [], ◌∷◌, map, eqb, leb, length, get_or}
use Rattle.paper.specs.Lists.{keep, is_empty, count, least}
use Rattle.closest.specs.Runs.{start_of}
use Rattle.shapes.specs.Shape.{type_of, parent_of, edge_of}
use Rattle.shapes.specs.declared.shape.Shape.{Shape}
use Rattle.partners.specs.Eight.{no_number}

module _ (levels types : List ℕ) (rows : ℕ) where
  -- the rows of type b in the run of level l around row i
  unfoldable pub closest_rows : ℕ → ℕ → ℕ → List ℕ
  closest_rows l b i = keep (λ j. eqb (get_or types j 0) b && eqb (start_of levels l i) (start_of levels l j)) (count 0 rows)

  -- for each row of type a, in order, how many rows of type b stand in its run of level l
  unfoldable pub numbers_of : ℕ → ℕ → ℕ → List ℕ
  numbers_of l a b = map (λ i. length (closest_rows l b i)) (keep (λ i. eqb (get_or types i 0) a) (count 0 rows))

  -- is row i of type a, and no row of type b in its run of level l?
  abbrev pub is_lone : ℕ → ℕ → ℕ → ℕ → Bool
  is_lone l a b i = eqb (get_or types i 0) a && is_empty (closest_rows l b i)

  -- the rows of type a in whose run of level l no row of type b stands
  unfoldable pub lone_rows : ℕ → ℕ → ℕ → List ℕ
  lone_rows l a b = keep (is_lone l a b) (count 0 rows)

  module _ (s : Shape) where
    -- the rows of entry c's type that have no partner
    abbrev pub alone_rows : ℕ → List ℕ
    alone_rows c = lone_rows (edge_of s c) (type_of s c) (type_of s (parent_of s c))

    -- for each row of the parent entry's type its number of children, and for each row of entry c's type its number of parents
    abbrev pub children_in : ℕ → List ℕ
    children_in c = numbers_of (edge_of s c) (type_of s (parent_of s c)) (type_of s c)

    abbrev pub parents_in : ℕ → List ℕ
    parents_in c = numbers_of (edge_of s c) (type_of s c) (type_of s (parent_of s c))

-- the least of a list, 65,535 where there is none
abbrev pub least_or : List ℕ → ℕ
least_or [] = no_number
least_or (x ∷ xs) = least (x ∷ xs)

-- a run of level l begins at each row of at most this level
abbrev pub Bound : ℕ → ℕ → Type 0
Bound l bound = (level : ℕ) → level < 256 → leb level bound ≡ (eqb l 0 || leb level l)
