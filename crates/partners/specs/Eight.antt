-- What one walk counts for eight edges, place by place: the runs of an edge begin at the rows up to its bound. Assumes nothing.
use Rattle.std.specs.Prelude.{ℕ, zero, suc, ◌+◌, ◌≤◌, ◌<◌, min, max, ◌≡◌, true, false, List, eqb, leb, get_or, replicate}
use Rattle.partners.specs.declared.eight.Eight.{Eight}
use Rattle.partners.specs.declared.eight.Counts.{Counts}

abbrev pub places : ℕ
places = 8

-- each of the eight places holds this
abbrev pub Eights : (ℕ → ℕ) → List ℕ → Type 0
Eights figure xs = (e : ℕ) → e < places → get_or xs e 0 ≡ figure e

-- what stands for the least of no numbers, and for no end
abbrev pub no_number : ℕ
no_number = 65535

-- ---- one place
-- the rows counted in a run that a row of this level ends, 0 for one that goes on
abbrev pub ended : (bound level count : ℕ) → ℕ
ended bound level count = elim (leb level bound) [ true ↦ count | false ↦ 0 ]

-- the lesser, and the greater, of m and a number that so many rows have
abbrev pub fewer : (m number rows : ℕ) → ℕ
fewer m number rows = elim (eqb rows 0) [ true ↦ m | false ↦ min m number ]

abbrev pub more : (m number rows : ℕ) → ℕ
more m number rows = elim (eqb rows 0) [ true ↦ m | false ↦ max m number ]

-- the lesser of m and i, where a run has children and no parents
abbrev pub first_end : (m parents children i : ℕ) → ℕ
first_end m parents children i = elim (eqb parents 0) [ true ↦ fewer m i children | false ↦ m ]

-- a row of type k, counted where that type is wanted
abbrev pub single : (wanted k : ℕ) → ℕ
single wanted k = elim (eqb wanted k) [ true ↦ 1 | false ↦ 0 ]

-- the rows of a wanted type counted after a row of type k and of this level
abbrev pub onward : (bound level wanted k count : ℕ) → ℕ
onward bound level wanted k count = elim (leb level bound) [ true ↦ 0 | false ↦ count ] + single wanted k

-- ---- along the rows
module _ (levels types : List ℕ) (bound : ℕ) where
  -- how many of the first i rows are of type k, in the run of the last of them
  unfoldable pub counted : ℕ → ℕ → ℕ
  counted k zero = 0
  counted k (suc i) = onward bound (get_or levels i 0) k (get_or types i 0) (counted k i)

  -- the least number of rows of type b that a row of type a has, in the runs before that of the last of the first i rows
  unfoldable pub least_to : ℕ → ℕ → ℕ → ℕ
  least_to a b zero = no_number
  least_to a b (suc i) = fewer (least_to a b i) (counted b i) (ended bound (get_or levels i 0) (counted a i))

  -- the greatest
  unfoldable pub greatest_to : ℕ → ℕ → ℕ → ℕ
  greatest_to a b zero = 0
  greatest_to a b (suc i) = more (greatest_to a b i) (counted b i) (ended bound (get_or levels i 0) (counted a i))

  -- where the first of these runs ends that has a row of type b and none of type a
  unfoldable pub lone_to : ℕ → ℕ → ℕ → ℕ
  lone_to a b zero = no_number
  lone_to a b (suc i) = first_end (lone_to a b i) (counted a i) (ended bound (get_or levels i 0) (counted b i)) i

  -- the same with the last run, for all rows
  abbrev pub least_in : ℕ → ℕ → ℕ → ℕ
  least_in a b rows = fewer (least_to a b rows) (counted b rows) (counted a rows)

  abbrev pub greatest_in : ℕ → ℕ → ℕ → ℕ
  greatest_in a b rows = more (greatest_to a b rows) (counted b rows) (counted a rows)

  abbrev pub lone_in : ℕ → ℕ → ℕ → ℕ
  lone_in a b rows = first_end (lone_to a b rows) (counted a rows) (counted b rows) rows

-- ---- the eight places
-- what is found of no rows
abbrev pub nothing : Eight
nothing = record {
  least_children = replicate places no_number;
  greatest_children = replicate places 0;
  least_parents = replicate places no_number;
  greatest_parents = replicate places 0;
  lone = replicate places no_number;
}

-- after the runs that row i, of this level, ends
pub record Closes (found : Eight) (parents children bounds : List ℕ) (level i : ℕ) (after : Eight) : Type 0 where
  pub least_children_lem : Eights (λ e. fewer (get_or found.least_children e 0) (get_or children e 0) (ended (get_or bounds e 0) level (get_or parents e 0)))
      after.least_children
  pub greatest_children_lem : Eights (λ e. more (get_or found.greatest_children e 0) (get_or children e 0) (ended (get_or bounds e 0) level (get_or parents e 0)))
      after.greatest_children
  pub least_parents_lem : Eights (λ e. fewer (get_or found.least_parents e 0) (get_or parents e 0) (ended (get_or bounds e 0) level (get_or children e 0)))
      after.least_parents
  pub greatest_parents_lem : Eights (λ e. more (get_or found.greatest_parents e 0) (get_or parents e 0) (ended (get_or bounds e 0) level (get_or children e 0)))
      after.greatest_parents
  pub lone_is : Eights (λ e. first_end (get_or found.lone e 0) (get_or parents e 0) (ended (get_or bounds e 0) level (get_or children e 0)) i) after.lone

-- no bound is greater
abbrev pub Within : (bounds : List ℕ) (most : ℕ) → Type 0
Within bounds most = (e : ℕ) → e < places → get_or bounds e 0 ≤ most

-- no more rows are counted than came before the next row, which is one of the rows or past the last
pub record Few (rows : ℕ) (at : Counts) : Type 0 where
  pub row_in : at.row ≤ rows
  pub parents_few : (e : ℕ) → e < places → get_or at.parents e 0 ≤ at.row
  pub children_few : (e : ℕ) → e < places → get_or at.children e 0 ≤ at.row

-- a place that held how many of the first i rows are of a wanted type, by a bound up to this one, holds how many of the first j are
abbrev pub CountsOn : (levels types wanted : List ℕ) (bound i j : ℕ) (before after : List ℕ) → Type 0
CountsOn levels types wanted bound i j before after = (e least : ℕ) → e < places → least ≤ bound
    → get_or before e 0 ≡ counted levels types least (get_or wanted e 0) i → get_or after e 0 ≡ counted levels types least (get_or wanted e 0) j

-- all rows from one that comes next to another, each deeper than this bound, are counted
pub record CountsDeep (levels types : List ℕ) (rows : ℕ) (over own : List ℕ) (bound : ℕ) (at after : Counts) : Type 0 where
  pub row_on : at.row ≤ after.row
  pub row_in : after.row ≤ rows
  pub deeper : (i : ℕ) → at.row ≤ i → i < after.row → bound < get_or levels i 0
  pub parents_on : CountsOn levels types over bound at.row after.row at.parents after.parents
  pub children_on : CountsOn levels types own bound at.row after.row at.children after.children

-- a row's level, and past the last row 0
pub record LevelAt (levels : List ℕ) (rows i level : ℕ) : Type 0 where
  pub own : i < rows → level ≡ get_or levels i 0
  pub past : rows ≤ i → level ≡ 0

-- after all rows; the parents' types are `over` and the children's `own`
pub record WalkedAll (levels types : List ℕ) (rows : ℕ) (bounds over own : List ℕ) (found : Eight) : Type 0 where
  pub least_children_lem : Eights (λ e. least_in levels types (get_or bounds e 0) (get_or over e 0) (get_or own e 0) rows) found.least_children
  pub greatest_children_lem : Eights (λ e. greatest_in levels types (get_or bounds e 0) (get_or over e 0) (get_or own e 0) rows) found.greatest_children
  pub least_parents_lem : Eights (λ e. least_in levels types (get_or bounds e 0) (get_or own e 0) (get_or over e 0) rows) found.least_parents
  pub greatest_parents_lem : Eights (λ e. greatest_in levels types (get_or bounds e 0) (get_or own e 0) (get_or over e 0) rows) found.greatest_parents
  pub lone_is : Eights (λ e. lone_in levels types (get_or bounds e 0) (get_or over e 0) (get_or own e 0) rows) found.lone
