-- The walk back for the last descendant of each row. Assumes nothing.
use Prim.Native.Nat.{ℕ, ◌≤◌, ◌<◌}
use mathlib.Core.Path.{◌≡◌}
use mathlib.Core.List.{List}
use lib.ListN.{length, get_or}
use Rattle.indexes.specs.Last.{DeepTo, LastRow}

-- row i is of level `behind`, 0 past the rows, and `ends` has for each level above it the last row from there on that is deeper
pub record Ends (rows : ℕ) (levels ends : List ℕ) (behind i : ℕ) : Type 0 where
  pub within : i ≤ rows
  pub level-is : i < rows → get_or levels i 0 ≡ behind
  pub deep : (l : ℕ) → l < behind → DeepTo rows levels l i (get_or ends l 0)

-- ---- the list that is written
-- the rows from row i on have their last descendants, and what lies past the rows is as it was
pub record Putting (rows : ℕ) (levels old new : List ℕ) (i : ℕ) : Type 0 where
  pub long : length new ≡ length old
  pub lasts : (j : ℕ) → i ≤ j → j < rows → LastRow rows levels j (get_or new j 0)
  pub rest : (j : ℕ) → rows ≤ j → get_or new j 0 ≡ get_or old j 0
