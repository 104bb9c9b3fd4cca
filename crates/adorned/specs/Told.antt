-- What is found out of a table, in the paper's terms. Assumes nothing.
use Rattle.std.specs.Prelude.{ℕ, ◌-◌, ◌<◌, ◌≤◌, ◌≡◌, List, [], ◌++◌, map, length, get_or, take, drop, replicate, Result, Ok, Err, IfOk}
use Rattle.paper.specs.Format.{Format, most_types}
use Rattle.paper.specs.Tables as Tables
use Rattle.paper.specs.Tables.{Row, types}
use Rattle.paper.specs.Closeness.{nodes}
use Rattle.paper.specs.Adorned.{Summary, summary, adorned}
use Rattle.paper.specs.Calls.{Reply, reply, adorning}
use Rattle.paper.specs.Refusals.{number_in, place_in}
use Rattle.paper.specs.declared.refusal.Refusal.{Refusal}
use Rattle.types.specs.Types.{Told}
use Rattle.closest.specs.Node.{Typed}
use Rattle.closest.specs.Rows.{RowsIn}
use Rattle.closest.specs.declared.rows.RowsRead.{RowsRead}
use Rattle.adorned.specs.declared.Adorned.{Adorned}
use Rattle.adorned.specs.declared.TypeSummary.{TypeSummary}
pub use Rattle.adorned.specs.Lent.{told}

-- type k of the types ts, which the lists tell, has this parent type, last label and level
pub record Listed (ts : List (List ℕ)) (parents labels : List ℕ) (count k parent label level : ℕ) : Type 0 where
  pub told : Told ts parents labels count
  pub known : k < count
  pub parent_is : parent ≡ get_or parents k 0
  pub label_is : label ≡ get_or labels k 0
  pub level-is : level ≡ length (get_or ts k [])

-- the summary of type k
abbrev pub summary_at : List Row → ℕ → Summary
summary_at rs k = summary (nodes rs) (types rs) k (get_or (types rs) k [])

-- what a place past the last type holds
abbrev pub no_summary : Summary
no_summary = record { parent = 0; label = 0; level = 0; rows = 0; least = 0; greatest = 0 }

-- the 64 places of an answer: the summaries, then zeros
abbrev pub placed : List Summary → List Summary
placed ss = ss ++ replicate (most_types - length ss) no_summary

-- whatever table has rows of these types, and lists type k so, this is the summary of its type k
abbrev pub Summarises : ℕ → List ℕ → ℕ → ℕ → ℕ → ℕ → TypeSummary → Type 0
Summarises rows ks k parent label level r = (f : Format) (t parents labels : List ℕ) (count : ℕ) → Typed f rows t ks
    → Listed (types (Tables.rows f t)) parents labels count k parent label level → told r ≡ summary_at (Tables.rows f t) k

-- whatever table these rows are read of, these are the summaries of its types
abbrev pub SummariesOf : RowsRead → List ℕ → List ℕ → List TypeSummary → Type 0
SummariesOf read levels ks all = (f : Format) (t : List ℕ) → RowsIn f t read levels ks → map told all ≡ placed (adorned (Tables.rows f t))

-- the answer is this reply: its number, its place, the count of its summaries, and the summaries
pub record Says (a : Reply (List Summary)) (r : Result Adorned Refusal) : Type 0 where
  pub number_is : number_in r ≡ a.number
  pub place_is : place_in r ≡ a.place
  pub given_is : IfOk r (λ x. (x.count ≡ length a.rest) × (map told x.summaries ≡ placed a.rest))

-- what adorning finds out where so many places are lent
unfoldable pub adorn_figures : Format → List ℕ → ℕ → Reply (List Summary)
adorn_figures f t lent = reply [] (adorning f t lent)

-- what 1 to 4 and 10 say of a table t where so many places are lent: the refusal r, or where none refuses, the rows r of t, with no more types than that
abbrev pub ReadsTypes : Format → List ℕ → ℕ → Result RowsRead Refusal → List ℕ → List ℕ → Type 0
ReadsTypes f t lent (Ok r) levels ks = RowsIn f t r levels ks × (r.count ≤ lent)
ReadsTypes f t lent (Err e) levels ks = Says (adorn_figures f t lent) (Err e)

-- at the front of what was lent stand the summaries of the types of whatever table these rows are read of, and what lies past them stays as it was
abbrev pub Stored : RowsRead → List ℕ → List ℕ → List TypeSummary → List TypeSummary → Type 0
Stored read levels ks old new = (all : List TypeSummary) × (length all ≡ most_types) × SummariesOf read levels ks all × (new ≡ take read.count all ++ drop read.count old)
