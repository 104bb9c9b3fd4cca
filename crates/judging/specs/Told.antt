-- What judging finds, in the paper's terms: what inner contracts name. Assumes nothing.
use Rattle.std.specs.Prelude.{ℕ, ◌≡◌, List, Result}
use Rattle.paper.specs.Format.{Format}
use Rattle.paper.specs.Partners.{EdgeNumbers}
use Rattle.paper.specs.Verdict
use Rattle.paper.specs.Calls.{judge}
use Rattle.paper.specs.declared.refusal.Refusal.{Refusal}
use Rattle.closest.specs.Rows.{RowsIn}
use Rattle.closest.specs.declared.rows.RowsRead.{RowsRead}
use Rattle.partners.specs.declared.edges.Edges.{Edges}
use Rattle.judging.specs.declared.verdict.Verdict.{Verdict}
use Rattle.judging.specs.declared.verdict.Verdict.TheVariants.{Kept, Missing, Apart, Unsure}
use Rattle.judging.specs.declared.judge.Judged.{Judged}
use Rattle.judging.specs.Judged.{judged, in_numbers}

-- the paper's verdict
abbrev pub told : Verdict → Rattle.paper.specs.Verdict.Verdict
told Kept = Rattle.paper.specs.Verdict.kept
told (Missing e r) = Rattle.paper.specs.Verdict.missing e r
told (Apart e f) = Rattle.paper.specs.Verdict.apart e f
told (Unsure e f) = Rattle.paper.specs.Verdict.unsure e f

-- the numbers of each edge as they are found
abbrev pub numbers_in : Edges → EdgeNumbers
numbers_in r = record {
  least_children = r.least_children;
  greatest_children = r.greatest_children;
  least_parents = r.least_parents;
  greatest_parents = r.greatest_parents;
}

-- whatever table the rows are of, r is what judging it says
abbrev pub JudgesRows : Format → List ℕ → RowsRead → List ℕ → List ℕ → Result Judged Refusal → Type 0
JudgesRows f s read levels types r = (t : List ℕ) → RowsIn f t read levels types → judged r ≡ in_numbers (judge f t s)
