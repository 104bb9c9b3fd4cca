-- Full edges, by the least number of children. Assumes nothing.
use Rattle.std.specs.Prelude.{ℕ, ◌≤◌, ◌<◌, ◌≡◌, Bool, true, false, not, List, eqb, get_or}
use Rattle.paper.specs.Format.{most_entries}

-- an edge is full exactly where its least number of children is not 0; entry 0 counts as one whose edge is full
pub record FullBy (least : List ℕ) (full : List Bool) : Type 0 where
  pub root : get_or full 0 false ≡ true
  pub each : (c : ℕ) → 1 ≤ c → c < most_entries → get_or full c false ≡ not (eqb (get_or least c 0) 0)
