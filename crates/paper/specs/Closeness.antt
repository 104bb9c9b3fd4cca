-- Meeting and closeness, of rows by their types and of lines by their entries. Assumes nothing.
use Rattle.std.specs.Prelude.{ℕ, suc, ◌+◌, ◌*◌, ◌-◌, Bool, true, false, ◌&&◌, List, [], ◌∷◌, map, eqb, ltb, length}
use Rattle.paper.specs.Lists.{keep, most, least, join_map}
use Rattle.paper.specs.Tables.{Row, dewey, types, row_types, type_number}

-- A row or a line as closeness sees it.
pub record Node : Type 0 where
  pub place : ℕ  -- its number in its table
  pub kind : ℕ  -- a row's type number; a line's entry
  pub dewey : List ℕ

abbrev pub level : Node → ℕ
level r = length r.dewey

-- the nodes with these kinds and Dewey numbers, counted from i
abbrev pub nodes_from : ℕ → List ℕ → List (List ℕ) → List Node
nodes_from i [] ds = []
nodes_from i (k ∷ ks) [] = []
nodes_from i (k ∷ ks) (d ∷ ds) = record { place = i; kind = k; dewey = d } ∷ nodes_from (suc i) ks ds

-- the rows of a table: the kind of a row is the number of its type
unfoldable pub nodes : List Row → List Node
nodes rs = nodes_from 0 (map (type_number (types rs)) (row_types rs)) (map dewey rs)

-- Two rows meet at the number of leading Dewey components they share (lists end, so no further than the smaller level).
abbrev pub shared : List ℕ → List ℕ → ℕ
shared [] ys = 0
shared (a ∷ xs) [] = 0
shared (a ∷ xs) (b ∷ ys) = elim (eqb a b) [ true ↦ suc (shared xs ys) | false ↦ 0 ]

abbrev pub meet : Node → Node → ℕ
meet r s = shared r.dewey s.dewey

-- Their distance, where they meet at 1 or more, is the sum of their levels less twice the meeting level.
abbrev pub distance : Node → Node → ℕ
distance r s = level r + level s - 2 * meet r s

-- the nodes of a kind, in table order
unfoldable pub of_kind : List Node → ℕ → List Node
of_kind t k = keep (λ (r : Node). eqb r.kind k) t

-- Two types meet at the largest meeting level of any row of one with any row of the other.
unfoldable pub kinds_meet : List Node → ℕ → ℕ → ℕ
kinds_meet t j k = most (λ r. most (meet r) (of_kind t k)) (of_kind t j)

-- two nodes meet at this level and it is not 0
unfoldable pub meet_at : ℕ → Node → Node → Bool
meet_at l r s = ltb 0 l && eqb (meet r s) l

-- Two rows are closest when they meet at the level at which their types meet and this is not 0.
unfoldable pub closest : List Node → Node → Node → Bool
closest t r s = meet_at (kinds_meet t r.kind s.kind) r s

-- the nodes of kind k closest to r, in table order
unfoldable pub closest_of : List Node → Node → ℕ → List Node
closest_of t r k = keep (meet_at (kinds_meet t r.kind k) r) (of_kind t k)

-- how many nodes of kind k are closest to r
unfoldable pub closest_number : List Node → ℕ → Node → ℕ
closest_number t k r = length (closest_of t r k)

-- the closest pairs of two kinds
unfoldable pub closest_pairs : List Node → ℕ → ℕ → List (Node × Node)
closest_pairs t j k = join_map (λ r. map (λ (s : Node). (r, s)) (closest_of t r k)) (of_kind t j)

-- ---- document 000's rule, which equals this one on every sound table (proofs/Papers.antt)
-- The type distance is the least distance of two rows of the types that meet.
unfoldable pub kinds_distance : List Node → ℕ → ℕ → ℕ
kinds_distance t j k =
    least (join_map (λ r. map (distance r) (keep (λ s. ltb 0 (meet r s)) (of_kind t k))) (of_kind t j))

-- Two rows are closest when they are joined and their distance is the type distance.
unfoldable pub least_distance : List Node → Node → Node → Bool
least_distance t r s = ltb 0 (meet r s) && eqb (distance r s) (kinds_distance t r.kind s.kind)
