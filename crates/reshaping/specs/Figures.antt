-- What the arrays of a summary hold. Assumes nothing.
use Rattle.std.specs.Prelude.{ℕ, ◌-◌, ◌≤◌, ◌<◌, min, ◌≡◌, true, false, List, eqb, length, get_or}
use Rattle.paper.specs.Format.{most_entries}
use Rattle.lines.specs.Count.{sum_to, shown}
use Rattle.reshaping.specs.declared.summarise.Summary.{Summary}

-- what the rows of type k add up to, each with its own number; `types` are the rows' type numbers
abbrev pub sum_of_type : List ℕ → ℕ → ℕ → (ℕ → ℕ) → ℕ
sum_of_type types rows k number = sum_to (λ i. elim (eqb (get_or types i 0) k) [ true ↦ number i | false ↦ 0 ]) rows

-- how many rows are of type k
abbrev pub held_by : List ℕ → ℕ → ℕ → ℕ
held_by types rows k = sum_of_type types rows k (λ _. 1)

-- how many of them the lines of entry e show, once or more often
abbrev pub different_in : List ℕ → ℕ → ℕ → List ℕ → ℕ → ℕ
different_in types rows k shows e = sum_of_type types rows k (λ i. min (shown shows e i) 1)

-- of the 16 places the first m hold what g says, and those past them zeros
pub record Holds (g : ℕ → ℕ) (m : ℕ) (xs : List ℕ) : Type 0 where
  pub long : length xs ≡ most_entries
  pub each : (e : ℕ) → e < m → get_or xs e 0 ≡ g e
  pub rest : (e : ℕ) → m ≤ e → get_or xs e 0 ≡ 0

-- the figures of each entry; `wanted` are the entries' type numbers
pub record Figured (types : List ℕ) (rows : ℕ) (wanted : List ℕ) (entries : ℕ) (shows lines : List ℕ) (x : Summary) : Type 0 where
  pub lines_are : x.lines ≡ lines
  pub rows_are : Holds (λ e. held_by types rows (get_or wanted e 0)) entries x.rows
  pub copies_are : Holds (λ e. get_or lines e 0 - different_in types rows (get_or wanted e 0) shows e) entries x.copies
  pub different_are : Holds (λ e. different_in types rows (get_or wanted e 0) shows e) entries x.different
