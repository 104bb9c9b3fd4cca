-- The label lists of rows, 8 places a row, and rows with the same one. Assumes nothing.
use Rattle.std.specs.Prelude.{ℕ, ◌+◌, ◌*◌, ◌-◌, ◌≤◌, ◌<◌, ◌≡◌, Bool, true, false, List, [], length, get_or}
use Rattle.paper.specs.Format.{most_rows}
use Rattle.octets.specs.Served.{most_levels}
use Rattle.closest.specs.Runs.{NextRow}

-- label m of row i
abbrev pub label_of : List ℕ → ℕ → ℕ → ℕ
label_of labels i m = get_or labels (most_levels * i + m) 0

-- row i has the labels of the row before it above level l, and there the label a; the places before it are as they were
pub record Put (i l a : ℕ) (old new : List ℕ) : Type 0 where
  pub copied : (m : ℕ) → m + 1 < l → label_of new i m ≡ label_of old (i - 1) m
  pub own : label_of new i (l - 1) ≡ a
  pub before : (p : ℕ) → p < most_levels * i → get_or new p 0 ≡ get_or old p 0

-- the first n rows have the labels of these lists
abbrev pub LabelLists : ℕ → List (List ℕ) → List ℕ → Type 0
LabelLists n ws labels = (i m : ℕ) → i < n → m < length (get_or ws i []) → label_of labels i m ≡ get_or (get_or ws i []) m 0

-- so many rows with levels and labels, each of which has its place
pub record LabelRows (rows : ℕ) (levels labels : List ℕ) : Type 0 where
  pub few : rows ≤ most_rows
  pub levels_long : rows ≤ length levels
  pub labels_long : most_levels * rows ≤ length labels
  pub shallow : (i : ℕ) → i < rows → get_or levels i 0 ≤ most_levels

-- rows i and j have one level and one list of labels
pub record Alike (levels labels : List ℕ) (i j : ℕ) : Type 0 where
  pub level : get_or levels j 0 ≡ get_or levels i 0
  pub label : (m : ℕ) → m < get_or levels i 0 → label_of labels i m ≡ label_of labels j m

-- r says whether rows i and j are alike
abbrev pub SaysAlike : List ℕ → List ℕ → ℕ → ℕ → Bool → Type 0
SaysAlike levels labels i j r = (r ≡ true → Alike levels labels i j) × (r ≡ false → Alike levels labels i j → ⊥)

-- rows have one number exactly where they are alike
abbrev pub Numbers : ℕ → List ℕ → List ℕ → List ℕ → Type 0
Numbers rows levels labels ks = (i j : ℕ) → i < rows → j < rows
    → (Alike levels labels i j → get_or ks j 0 ≡ get_or ks i 0) × (get_or ks j 0 ≡ get_or ks i 0 → Alike levels labels i j)

-- by whatever numbers of that kind, p is the next row with row i's
abbrev pub NextAlike : ℕ → List ℕ → List ℕ → ℕ → ℕ → Type 0
NextAlike rows levels labels i p = (ks : List ℕ) → Numbers rows levels labels ks → NextRow rows ks i p

-- each row's next one stands at its place, and what lies past the rows is as it was
pub record NextsAlike (rows : ℕ) (levels labels old new : List ℕ) : Type 0 where
  pub nexts : (i : ℕ) → i < rows → NextAlike rows levels labels i (get_or new i 0)
  pub rest : (i : ℕ) → rows ≤ i → get_or new i 0 ≡ get_or old i 0
