-- The index at the front of the two lists. Assumes nothing.
use Rattle.std.specs.Prelude.{ℕ, ◌≡◌, List, ◌++◌, length, drop}
use Rattle.paper.specs.Format.{Format}
use Rattle.paper.specs.Tables.{rows}
use Rattle.paper.specs.Closeness.{nodes}
use Rattle.paper.specs.Index.{index_of}

-- the index of the table t stands at the front of both lists, and what lies past it is as it was
pub record Indexes (f : Format) (t last next last' next' : List ℕ) : Type 0 where
  pub lasts : last' ≡ (index_of (nodes (rows f t))).last ++ drop (length (rows f t)) last
  pub nexts : next' ≡ (index_of (nodes (rows f t))).next ++ drop (length (rows f t)) next
