-- Where a lent list is wrong. Assumes nothing.
use Rattle.std.specs.Prelude.{ℕ, ◌≤◌, ◌<◌, ◌≡◌, List, get_or, Option, None, Some, min}

-- w is the first row from row i on at whose place the list has not what is right there
pub record WrongAt (rows : ℕ) (Right : ℕ → ℕ → Type 0) (list : List ℕ) (i w : ℕ) : Type 0 where
  pub after : i ≤ w
  pub within : w < rows
  pub right : (j : ℕ) → i ≤ j → j < w → Right j (get_or list j 0)
  pub wrong : (p : ℕ) × Right w p × (get_or list w 0 ≡ p → ⊥)

-- that row, or none where each row from row i on has what is right there
abbrev pub WrongFrom : ℕ → (ℕ → ℕ → Type 0) → List ℕ → ℕ → Option ℕ → Type 0
WrongFrom rows Right list i None = (j : ℕ) → i ≤ j → j < rows → Right j (get_or list j 0)
WrongFrom rows Right list i (Some w) = WrongAt rows Right list i w

-- of all rows
abbrev pub FirstWrong : ℕ → (ℕ → ℕ → Type 0) → List ℕ → Option ℕ → Type 0
FirstWrong rows Right list r = WrongFrom rows Right list 0 r

-- the earlier of two rows, where there is one
abbrev pub earlier : Option ℕ → Option ℕ → Option ℕ
earlier None b = b
earlier (Some i) None = Some i
earlier (Some i) (Some j) = Some (min i j)
