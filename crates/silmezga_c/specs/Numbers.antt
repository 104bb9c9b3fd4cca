-- What the structs for C tell, in the paper's terms, and what Rattle's call judged, in numbers. Assumes nothing.
use Rattle.std.specs.Prelude.{ℕ, List, [], ◌∷◌, ◌++◌, Result, Ok, Err}
use Rattle.paper.specs.Lists.{padded}
use Rattle.paper.specs.Figures.{Figures}
use Rattle.paper.specs.Labels as Labels
use Rattle.paper.specs.Partners.{no_edges}
use Rattle.paper.specs.Calls.{Reply}
use Rattle.paper.specs.Refusals.{refusal_number, refusal_place}
use Rattle.paper.specs.declared.refusal.Refusal.{Refusal}
use Rattle.judging.specs.Judged.{numbers_of, edges_of}
use Rattle.judging.specs.declared.judge.Judged.{Judged}
use Rattle.silmezga_c.specs.Told.{as_number, InFour}
use Rattle.silmezga_c.specs.declared.answers.Counted.{Counted}
use Rattle.silmezga_c.specs.declared.answers.ConvertedNumbers.{ConvertedNumbers}
use Rattle.silmezga_c.specs.declared.answers.SummaryNumbers.{SummaryNumbers}

-- number, place, count
abbrev pub told_count : Counted → Reply ℕ
told_count r = record { number = r.number; place = r.place; rest = r.count }

-- number, place, the counts of rows and entries
abbrev pub told_converted : ConvertedNumbers → Reply Labels.Converted
told_converted r = record { number = r.number; place = r.place; rest = record { rows = r.rows; entries = r.entries } }

-- number, place, and the figures of 16 entries
abbrev pub told_summary : SummaryNumbers → Reply Figures
told_summary r = record { number = r.number; place = r.place; rest = record { lines = r.lines; rows = r.rows; copies = r.copies; different = r.different } }

-- what was judged, with these four numbers
abbrev pub told_of : Judged → List ℕ → Reply InFour
told_of j four = record { number = 0; place = 0; rest = record { four = four; edges = edges_of j } }

-- what was judged, with the numbers of its verdict, made up to three, and of its second answer; zeros where it is refused
abbrev pub judged_numbers : Result Judged Refusal → Reply InFour
judged_numbers (Ok j) = told_of j (padded 3 (numbers_of j.verdict) ++ (as_number j.none_apart ∷ []))
judged_numbers (Err e) = record {
  number = refusal_number e;
  place = refusal_place e;
  rest = record { four = 0 ∷ 0 ∷ 0 ∷ 0 ∷ []; edges = no_edges };
}
