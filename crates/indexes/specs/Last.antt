-- The last descendant of each row, by levels. Assumes nothing.
use Rattle.std.specs.Prelude.{ℕ, suc, ◌≤◌, ◌<◌, ◌≡◌, List, length, get_or}
use Rattle.paper.specs.Format.{most_rows}
use Rattle.octets.specs.Served.{most_levels}

-- so many rows with their levels, each of which has a place in a list of ends
pub record Shallow (rows : ℕ) (levels : List ℕ) : Type 0 where
  pub few : rows ≤ most_rows
  pub long : rows ≤ length levels
  pub shallow : (i : ℕ) → i < rows → get_or levels i 0 ≤ most_levels

-- p is the last of the rows from row i on that are deeper than level l without a break
pub record DeepTo (rows : ℕ) (levels : List ℕ) (l i p : ℕ) : Type 0 where
  pub from : i ≤ suc p  -- row i - 1 where row i is not
  pub inside : p < rows
  pub deep : (j : ℕ) → i ≤ j → j ≤ p → l < get_or levels j 0
  pub ends : suc p < rows → get_or levels (suc p) 0 ≤ l

-- p is row i's last descendant, itself if none
abbrev pub LastRow : ℕ → List ℕ → ℕ → ℕ → Type 0
LastRow rows levels i p = DeepTo rows levels (get_or levels i 0) (suc i) p

-- each row's last descendant stands at its place, and what lies past the rows is as it was
pub record LastRows (rows : ℕ) (levels old new : List ℕ) : Type 0 where
  pub lasts : (i : ℕ) → i < rows → LastRow rows levels i (get_or new i 0)
  pub rest : (i : ℕ) → rows ≤ i → get_or new i 0 ≡ get_or old i 0

-- r is what `old` says of level l where the row behind is deeper, else row i, which then stands for every level between
pub record Stepped (behind l i : ℕ) (old new : List ℕ) (r : ℕ) : Type 0 where
  pub deeper : l < behind → r ≡ get_or old l 0
  pub own : behind ≤ l → r ≡ i
  pub between : (m : ℕ) → behind ≤ m → m < l → get_or new m 0 ≡ i
  pub above : (m : ℕ) → m < behind → get_or new m 0 ≡ get_or old m 0
