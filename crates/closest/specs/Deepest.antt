-- How deep the rows of one type meet those of another that stand at or after them. Assumes nothing.
use Rattle.std.specs.Prelude.{ℕ, zero, suc, ◌+◌, ◌*◌, ◌≤◌, ◌<◌, min, max, pred, ◌≡◌, ◌⊎◌, true, false, List, eqb, get_or, replicate}
use Rattle.paper.specs.Format.{Format, most_types, most_entries}
use Rattle.paper.specs.Closeness.{meet}
use Rattle.closest.specs.Node.{node}

-- among so many first rows, v is the deepest at which a row of type a meets a row of type k at or after it; 0 for none
pub record Deepest (f : Format) (rows : ℕ) (t types : List ℕ) (a k v : ℕ) : Type 0 where
  pub most : (i j : ℕ) → i ≤ j → j < rows → get_or types i 0 ≡ a → get_or types j 0 ≡ k → meet (node f t i) (node f t j) ≤ v
  pub reached : 0 < v → (i j : ℕ) × (i ≤ j) × (j < rows) × (get_or types i 0 ≡ a) × (get_or types j 0 ≡ k) × (meet (node f t i) (node f t j) ≡ v)

-- how deep a row of type k and level l meets the rows of type a at or before it, where the row before it meets them at m
abbrev pub onward : ℕ → ℕ → ℕ → ℕ → ℕ
onward k a l m = elim (eqb k a) [ true ↦ l | false ↦ min m (pred l) ]

-- the same for each of the wanted types
abbrev pub Onward : List ℕ → ℕ → ℕ → List ℕ → List ℕ → Type 0
Onward wanted k l near on = (e : ℕ) → e < most_entries → get_or on e 0 ≡ onward k (get_or wanted e 0) l (get_or near e 0)

-- ---- read off the rows' levels and types
module _ (levels types : List ℕ) (a : ℕ) where
  -- how deep the last of the first i rows meets the rows of type a at or before it
  unfoldable pub nearest : ℕ → ℕ
  nearest zero = 0
  nearest (suc i) = onward (get_or types i 0) a (get_or levels i 0) (nearest i)

  -- the deepest at which one of the first i rows of type k meets a row of type a at or before it
  unfoldable pub deepest : ℕ → ℕ → ℕ
  deepest k zero = 0
  deepest k (suc i) = elim (eqb (get_or types i 0) k) [ true ↦ max (deepest k i) (nearest (suc i)) | false ↦ deepest k i ]

-- the level at which two types meet: the deeper of the two, rows of the one before those of the other or the other way round
abbrev pub types_meet : List ℕ → List ℕ → ℕ → ℕ → ℕ → ℕ
types_meet levels types rows a b = max (deepest levels types a b rows) (deepest levels types b a rows)

-- so many places from `at` on are the deeper of what they were and of `near`, and the others are as they were
pub record Deepened (count at : ℕ) (near before after : List ℕ) : Type 0 where
  pub deeper : (e : ℕ) → e < count → get_or after (at + e) 0 ≡ max (get_or before (at + e) 0) (get_or near e 0)
  pub others : (j : ℕ) → (j < at) ⊎ (at + count ≤ j) → get_or after j 0 ≡ get_or before j 0

-- the places before any row is walked
abbrev pub no_meetings : List ℕ
no_meetings = replicate (most_entries * most_types) 0

-- for each of 64 types, 16 places: how deep its rows meet those of each wanted type at or before them
abbrev pub Meetings : ℕ → List ℕ → List ℕ → List ℕ → List ℕ → Type 0
Meetings rows levels types wanted m =
    (k e : ℕ) → k < most_types → e < most_entries → get_or m (most_entries * k + e) 0 ≡ deepest levels types (get_or wanted e 0) k rows
