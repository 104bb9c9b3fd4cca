-- What judging answers, in the paper's terms: what the public contracts name. Assumes nothing.
use Rattle.std.specs.Prelude.{ℕ, Bool, List, [], ◌∷◌, Result}
use Rattle.paper.specs.Partners.{EdgeNumbers}
use Rattle.paper.specs.Verdict.{Judgement, verdict_numbers}
use Rattle.paper.specs.Calls.{Reply, no_judgement}
use Rattle.paper.specs.Refusals.{reply_of}
use Rattle.paper.specs.declared.refusal.Refusal.{Refusal}
use Rattle.judging.specs.declared.verdict.Verdict.{Verdict}
use Rattle.judging.specs.declared.verdict.Verdict.TheVariants.{Kept, Missing, Apart, Unsure}
use Rattle.judging.specs.declared.judge.Judged.{Judged}

-- document 01's number of a verdict, and its values
abbrev pub numbers_of : Verdict → List ℕ
numbers_of Kept = 0 ∷ []
numbers_of (Missing e r) = 1 ∷ e ∷ r ∷ []
numbers_of (Apart e f) = 2 ∷ e ∷ f ∷ []
numbers_of (Unsure e f) = 3 ∷ e ∷ f ∷ []

-- document 01's number and values of a verdict, the second answer, and the numbers of each edge
pub record InNumbers : Type 0 where
  pub verdict : List ℕ
  pub none_apart : Bool
  pub edges : EdgeNumbers

-- the numbers of each edge
abbrev pub edges_of : Judged → EdgeNumbers
edges_of r = record {
  least_children = r.least_children;
  greatest_children = r.greatest_children;
  least_parents = r.least_parents;
  greatest_parents = r.greatest_parents;
}

-- the verdict in numbers, the second answer, and the numbers of each edge
abbrev pub judgement_of : Judged → InNumbers
judgement_of r = record { verdict = numbers_of r.verdict; none_apart = r.none_apart; edges = edges_of r }

-- what a refusal holds in their place
abbrev pub not_judged : InNumbers
not_judged = record { verdict = verdict_numbers no_judgement.verdict; none_apart = no_judgement.none_apart; edges = no_judgement.edges }

-- number, place, and what is judged
abbrev pub judged : Result Judged Refusal → Reply InNumbers
judged r = reply_of not_judged judgement_of r

-- a reply with a judgement, in numbers
abbrev pub in_numbers : Reply Judgement → Reply InNumbers
in_numbers r = record {
  number = r.number;
  place = r.place;
  rest = record { verdict = verdict_numbers r.rest.verdict; none_apart = r.rest.none_apart; edges = r.rest.edges };
}
