-- The type that a name matches, by its number in a list of types. Assumes nothing.
use Rattle.std.specs.Prelude.{ℕ, ◌≤◌, ◌≡◌, Bool, true, false, List, [], eqb, length, get_or}
use Rattle.paper.specs.Lists.{Has, keep, place}
use Rattle.paper.specs.Format.{most_types}
use Rattle.grammar.specs.Grammar.{Name}
use Rattle.grammar.specs.Typed.{matches}
use Rattle.names.specs.Word.{most_kept}
use Rattle.types.specs.Types.{Told}

-- the number of the one type that the name matches; 64 where it matches none or several
unfoldable pub sole_number : List (List ℕ) → Name → ℕ
sole_number ts n = elim (eqb (length (keep (matches n) ts)) 1) [ true ↦ place (matches n) ts | false ↦ most_types ]

-- No type has more labels than are kept of a name.
abbrev pub Short : List (List ℕ) → Type 0
Short ts = (v : List ℕ) → Has v ts → length v ≤ most_kept

-- The lists tell these types, none of them too long.
pub record Listed (ts : List (List ℕ)) (parents labels : List ℕ) (count : ℕ) : Type 0 where
  pub told : Told ts parents labels count
  pub short : Short ts

-- whatever types are listed, r says whether the name matches type k
abbrev pub Ends : List ℕ → List ℕ → ℕ → Name → ℕ → Bool → Type 0
Ends parents labels count n k r = (ts : List (List ℕ)) → Told ts parents labels count → r ≡ matches n (get_or ts k [])

-- whatever types are listed, r is the number of the one that the name matches
abbrev pub Sole : List ℕ → List ℕ → ℕ → Name → ℕ → Type 0
Sole parents labels count n r = (ts : List (List ℕ)) → Listed ts parents labels count → r ≡ sole_number ts n
