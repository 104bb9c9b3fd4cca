-- A row of a table as a node, and what the leaves ask of a table. Assumes nothing.
use Rattle.std.specs.Prelude.{ℕ, ◌≤◌, ◌<◌, ◌≡◌, true, List, length, get_or, take}
use Rattle.std.proofs.Math.Option.{none}
use Rattle.paper.specs.Format.{Format}
use Rattle.paper.specs.Tables as Tables
use Rattle.paper.specs.Tables.{row_of, row_part, dewey, bad_row}
use Rattle.paper.specs.Closeness.{Node, meet_at}
use Rattle.types.specs.Types.{kinds}

-- row i of a table
abbrev pub node : Format → List ℕ → ℕ → Node
node f t i = record { place = i; kind = get_or (kinds (Tables.rows f t)) i 0; dewey = dewey (row_of f (row_part f t i)) }

-- the table keeps the row rules and has few enough levels for the leaves
pub record Sound (f : Format) (t : List ℕ) : Type 0 where
  pub kept : bad_row f (Tables.rows f t) ≡ none
  pub shallow : f.levels ≤ 255

-- and its rows have these type numbers
pub record Typed (f : Format) (rows : ℕ) (t types : List ℕ) : Type 0 where
  pub sound : Sound f t
  pub rows_n : rows ≡ length (Tables.rows f t)
  pub listed : take rows types ≡ kinds (Tables.rows f t)

-- p is the next row of type k, at or after `from`, that meets row r at level l and not at 0; past the rows for none
pub record Next (f : Format) (rows : ℕ) (t types : List ℕ) (r k l from p : ℕ) : Type 0 where
  pub after : p < rows → from ≤ p
  pub typed : p < rows → get_or types p 0 ≡ k
  pub meets : p < rows → meet_at l (node f t r) (node f t p) ≡ true
  pub passed : (j : ℕ) → from ≤ j → j < rows → j < p → get_or types j 0 ≡ k → meet_at l (node f t r) (node f t j) ≡ true → ⊥
