-- What one pair of entries earns, read off arrays: each entry's way, each edge's level, and whether it is full. Assumes nothing.
use Rattle.std.specs.Prelude.{ℕ, ◌+◌, ◌*◌, ◌≤◌, ◌<◌, min, ◌≡◌, Bool, true, false, ◌&&◌, ◌||◌, List, [], ◌∷◌, map, eqb, length, get_or, drop}
use Rattle.paper.specs.Lists.{is_empty, first_or, count}
use Rattle.paper.specs.Format.{most_entries}
use Rattle.paper.specs.Closeness.{shared}
use Rattle.paper.specs.Verdict.{Verdict, kept, missing, apart, unsure, over_pairs}
use Rattle.shapes.specs.Edges.{meeting_of}
use Rattle.shapes.specs.Shape.{level_of, Sized}
use Rattle.shapes.specs.Ways.{way_places, way_at}
use Rattle.shapes.specs.declared.shape.Shape.{Shape}
use Rattle.judging.specs.Told.{told}
use Rattle.judging.specs.declared.verdict.Verdict as Judged
use Rattle.judging.specs.declared.pairs.Path.{Path}

-- the least of b and these
abbrev pub lowest : ℕ → List ℕ → ℕ
lowest b [] = b
lowest b (x ∷ xs) = lowest (min b x) xs

abbrev pub fault : Verdict → List Verdict
fault kept = []
fault (missing e r) = missing e r ∷ []
fault (apart e f) = apart e f ∷ []
fault (unsure e f) = unsure e f ∷ []

module _ (edges : List ℕ) where
  -- the levels of these edges
  abbrev pub levels_on : List ℕ → List ℕ
  levels_on cs = map (λ c. get_or edges c 0) cs

  -- some edge of level l has only full edges between it and the fork, from which the edges run down
  abbrev pub sure_on : List Bool → ℕ → List ℕ → Bool
  sure_on full l [] = false
  sure_on full l (c ∷ cs) = eqb (get_or edges c 0) l || (get_or full c false && sure_on full l cs)

  -- the least level on the path between two entries whose ways are these
  abbrev pub least_on : List ℕ → List ℕ → ℕ
  least_on a b = lowest (lowest 255 (levels_on (drop (shared a b) a))) (levels_on (drop (shared a b) b))

  -- what a pair earns whose types meet at m and whose ways are these
  abbrev pub earned_by : List Bool → ℕ → ℕ → ℕ → List ℕ → List ℕ → Verdict
  earned_by full m e f a b =
      elim (eqb (least_on a b) m) [
        | true ↦ elim (sure_on full m (drop (shared a b) a) || sure_on full m (drop (shared a b) b)) [ true ↦ kept | false ↦ unsure e f ]
        | false ↦ apart e f
      ]

-- the entries from entry 0 down to e
abbrev pub way_of : (levels ways : List ℕ) → ℕ → List ℕ
way_of levels ways e = way_at ways e (get_or levels e 0)

-- what is found of the path between e and f
pub record Found (levels edges ways : List ℕ) (e f : ℕ) (path : Path) : Type 0 where
  pub shared-is : path.shared ≡ shared (way_of levels ways e) (way_of levels ways f)
  pub least-is : path.least ≡ least_on edges (way_of levels ways e) (way_of levels ways f)

abbrev pub earned : (levels edges : List ℕ) → List Bool → (ways : List ℕ) → ℕ → ℕ → ℕ → Verdict
earned levels edges full ways m e f = earned_by edges full m e f (way_of levels ways e) (way_of levels ways f)

-- the first pair of entries, by e, then f, that earns a 2 or a 3
unfoldable pub first_fault : Shape → List ℕ → List Bool → List ℕ → Verdict
first_fault s ways full meetings =
    first_or kept (over_pairs (λ e f. fault (earned s.levels s.edges full ways (meeting_of meetings s.types e f) e f)) (count 0 s.entries))

-- the fault is the first that the pairs earn, whichever edges are full
abbrev pub FirstFault : Shape → List ℕ → List ℕ → Judged.Verdict → Type 0
FirstFault s ways meetings v = (full : List Bool) × (told v ≡ first_fault s ways full meetings)

-- the 2 that a pair earns, by whether its types meet at the least level on the path
abbrev pub apart_by : ℕ → ℕ → Bool → List Verdict
apart_by e f least = elim least [ true ↦ [] | false ↦ apart e f ∷ [] ]

abbrev pub apart_pair : Shape → List ℕ → List ℕ → ℕ → ℕ → List Verdict
apart_pair s ways meetings e f =
    apart_by e f (eqb (least_on s.edges (way_of s.levels ways e) (way_of s.levels ways f)) (meeting_of meetings s.types e f))

-- no pair earns a 2
unfoldable pub no_pair_apart : Shape → List ℕ → List ℕ → Bool
no_pair_apart s ways meetings = is_empty (over_pairs (apart_pair s ways meetings) (count 0 s.entries))

-- the way of entry e, of n levels, has a place for each level, and holds entries
pub record WayFits (ways : List ℕ) (e n : ℕ) : Type 0 where
  pub entry : e < most_entries
  pub ways_long : length ways ≡ way_places * most_entries
  pub short : n ≤ way_places
  pub inside : (k : ℕ) → k < n → get_or ways (way_places * e + k) 0 < most_entries

-- each way has a place for each level, and holds entries
pub record Room (s : Shape) (ways : List ℕ) : Type 0 where
  pub sized : Sized s
  pub ways_long : length ways ≡ way_places * most_entries
  pub short : (e : ℕ) → e < s.entries → level_of s e ≤ way_places
  pub inside : (e k : ℕ) → e < s.entries → k < level_of s e → get_or ways (way_places * e + k) 0 < s.entries
