-- Rows without a partner, entry by entry, and candidates along a run. Assumes nothing.
use Rattle.std.specs.Prelude.{ℕ, ◌+◌, ◌≤◌, ◌<◌, ◌≡◌, ◌⊎◌, true, false, List, map, eqb, leb, get_or}
use Rattle.paper.specs.Lists.{keep, join_map, count}
use Rattle.paper.specs.Closeness.{Node, of_kind, closest_number}
use Rattle.paper.specs.Verdict.{Verdict, missing}
use Rattle.shapes.specs.declared.shape.Shape.{Shape}
use Rattle.partners.specs.Closest.{alone_rows}

-- the rows of type a whose number of closest rows of type b is 0
unfoldable pub alone_of : List Node → ℕ → ℕ → List Node
alone_of t a b = keep (λ r. eqb (closest_number t b r) 0) (of_kind t a)

module _ (levels types : List ℕ) (rows : ℕ) (s : Shape) where
  -- for each of n entries from c on: its rows without a partner
  unfoldable pub lone_from : ℕ → ℕ → List Verdict
  lone_from c n = join_map (λ c. map (missing c) (alone_rows levels types rows s c)) (count c n)

-- ---- along a run
-- where the candidates for row r are looked for: from r itself where a run begins there, and else from j on
abbrev pub candidate_from : List ℕ → ℕ → ℕ → ℕ → ℕ
candidate_from levels bound r j = elim (leb (get_or levels r 0) bound) [ true ↦ r | false ↦ j ]

-- k is the row after row j in its run, past the rows for none
abbrev pub OnInRun : List ℕ → ℕ → ℕ → ℕ → ℕ → Type 0
OnInRun levels rows bound j k =
    ((k ≡ j + 1) × (k < rows) × (bound < get_or levels k 0)) ⊎ ((k ≡ rows) × (j + 1 < rows → get_or levels (j + 1) 0 ≤ bound))
