-- Any two answers that judging's contract allows are equal, and the numbers of each edge agree with rows and verdict. Assumes nothing.
use Prim.Native.Nat.{ℕ, zero, suc}
use mathlib.Core.Path.{◌≡◌, refl, sym, ◌∙◌, ap, subst}
use mathlib.Core.List.{List}
use lib.ListN.{get_or}
use Rattle.paper.specs.Format.{Format}
use Rattle.paper.specs.Tables.{Row}
use Rattle.paper.specs.Calls.{Reply, given, judge}
use Rattle.paper.specs.Index.{tests_index, judge_with}
use Rattle.paper.specs.Edges.{EdgesAgree}
use Rattle.paper.proofs.Edges.{judge_agrees}
use Rattle.paper.proofs.Index.{index_reads}
use Rattle.paper.proofs.WithIndex.{judge-plain}
use Rattle.std.specs.Prelude.{Result, Ok}
use Rattle.paper.specs.declared.refusal.Refusal.{Refusal}
use Rattle.paper.proofs.Refusals.{same_answer}
use Rattle.judging.specs.Judged.{numbers_of, InNumbers, edges_of, judgement_of, not_judged, judged, in_numbers}
use Rattle.judging.specs.declared.verdict.Verdict.{Verdict}
use Rattle.judging.specs.declared.verdict.Verdict.TheVariants.{Kept, Missing, Apart, Unsure}
use Rattle.judging.specs.declared.judge.Judged.{Judged}

-- the verdict with this number and these values
abbrev verdict_of : ℕ → ℕ → ℕ → Verdict
verdict_of zero a b = Kept
verdict_of (suc zero) a b = Missing a b
verdict_of (suc (suc zero)) a b = Apart a b
verdict_of (suc (suc (suc n))) a b = Unsure a b

abbrev from_numbers : List ℕ → Verdict
from_numbers l = verdict_of (get_or l 0 0) (get_or l 1 0) (get_or l 2 0)

of_numbers : (v : Verdict) → from_numbers (numbers_of v) ≡ v
of_numbers Kept = refl
of_numbers (Missing e r) = refl
of_numbers (Apart e f) = refl
of_numbers (Unsure e f) = refl

-- two that tell the same are one
told_same : (a b : Judged) → judgement_of a ≡ judgement_of b → a ≡ b
told_same a b e =
    let v : a.verdict ≡ b.verdict =
    sym (of_numbers a.verdict) ∙ ap (λ (x : InNumbers). from_numbers x.verdict) e ∙ of_numbers b.verdict in
    λ i. record {
      verdict = v i;
      none_apart = ap (λ (x : InNumbers). x.none_apart) e i;
      least_children = ap (λ (x : InNumbers). x.edges.least_children) e i;
      greatest_children = ap (λ (x : InNumbers). x.edges.greatest_children) e i;
      least_parents = ap (λ (x : InNumbers). x.edges.least_parents) e i;
      greatest_parents = ap (λ (x : InNumbers). x.edges.greatest_parents) e i;
    }

-- two answers that are one reply are one
judged-same : (a b : Result Judged Refusal) → judged a ≡ judged b → a ≡ b
judged-same a b e = same_answer not_judged judgement_of told_same a b e

pub judge_unique : (f : Format) (t s : List ℕ) (a b : Result Judged Refusal) → judged a ≡ in_numbers (judge f t s) → judged b ≡ in_numbers (judge f t s) → a ≡ b
judge_unique f t s a b p q = judged-same a b (p ∙ sym q)

-- Where it is accepted, the numbers that it gives agree with rows and verdict.
pub edges_agree : (f : Format) (t s : List ℕ) (a : Judged) → judged (Ok a) ≡ in_numbers (judge f t s) → EdgesAgree f t s (edges_of a)
edges_agree f t s a q =
    subst (EdgesAgree f t s) (sym (ap (λ (x : Reply InNumbers). x.rest.edges) q)) (judge_agrees f t s (sym (ap (λ (x : Reply InNumbers). x.number) q)))

-- ---- with an index
module _ (f : Format) (t s last next : List ℕ) (a : Result Judged Refusal) (p : judged a ≡ in_numbers (judge_with f t s last next)) where
  pub judge_with_unique : (b : Result Judged Refusal) → judged b ≡ in_numbers (judge_with f t s last next) → a ≡ b
  judge_with_unique b q = judged-same a b (p ∙ sym q)

  -- Where the index is this table's, it is what judging without one says.
  pub judge_as_plain : (rs : List Row) → tests_index f t last next ≡ given rs → judged a ≡ in_numbers (judge f t s)
  judge_as_plain rs e = p ∙ ap in_numbers (judge-plain f t s last next (index_reads f t last next rs e))
