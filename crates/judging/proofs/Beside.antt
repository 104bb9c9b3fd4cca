-- The second answer beside the first pair that earns a 2 or a 3. Assumes nothing.
use Prim.Native.Nat.{ℕ}
use mathlib.Core.Path.{◌≡◌, refl, sym, ◌∙◌, ap}
use mathlib.Core.Bool.{Bool, true, false, not}
use mathlib.Core.List.{List, [], ◌∷◌}
use Rattle.paper.specs.Lists.{any, first_or, count}
use Rattle.paper.specs.Verdict.{Verdict, kept, apart, is_apart, over_pairs}
use Rattle.shapes.specs.Edges.{meeting_of}
use Rattle.shapes.specs.declared.shape.Shape.{Shape}
use Rattle.judging.specs.Pairs.{way_of, earned, first_fault, apart_pair, no_pair_apart}
use Rattle.judging.proofs.Earned.{pairs_related, NoneIn, none_more, none-fault, FirstIn, first_more, first_fault_lem}
use Rattle.judging.proofs.Faults.{faults_of}

module _ (s : Shape) (ways : List ℕ) (full : List Bool) (meetings : List ℕ) where
  -- what the pairs earn
  abbrev faults : List Verdict
  faults = over_pairs (faults_of s ways full meetings) (count 0 s.entries)

  abbrev meet : ℕ → ℕ → ℕ
  meet = meeting_of meetings s.types

  -- no pair earns a 2 exactly where none is among the faults, whichever edges are full
  among : no_pair_apart s ways meetings ≡ not (any is_apart faults)
  unfolding no_pair_apart
  among = pairs_related NoneIn refl none_more (apart_pair s ways meetings) (faults_of s ways full meetings) 0 s.entries
      (λ e f ge lt lf. none-fault s.edges full (meet e f) e f (way_of s.levels ways e) (way_of s.levels ways f))

  -- no pair earns a 2 or a 3
  pub beside_none : kept ≡ first_fault s ways full meetings → true ≡ no_pair_apart s ways meetings
  unfolding first_fault
  beside_none e = sym (among ∙ ap (λ l. not (any is_apart l)) (empty (sym e)))
    where
      empty : FirstIn [] faults
      empty = pairs_related FirstIn (λ q. refl) first_more (λ e f. []) (faults_of s ways full meetings) 0 s.entries
          (λ e f ge lt lf. first_fault_lem (earned s.levels s.edges full ways (meet e f) e f))

  -- the first pair that earns one earns a 2
  pub beside_apart : (e f : ℕ) → apart e f ≡ first_fault s ways full meetings → false ≡ no_pair_apart s ways meetings
  unfolding first_fault
  beside_apart e f q = sym (among ∙ go faults q)
    where
      go : (l : List Verdict) → apart e f ≡ first_or kept l → not (any is_apart l) ≡ false
      go [] q = let z : ◌≡◌ {A = Bool} true false = ap is_apart q in z
      go (v ∷ l) q = ap (λ v. not (any is_apart (v ∷ l))) (sym q)
