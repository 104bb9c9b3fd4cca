-- The walk over the pairs of entries: to the first that earns a 2 or a 3, and to the first that earns a 2. Assumes nothing.
use Prim.Native.Nat.{ℕ, ◌+◌, ◌-◌, ◌≤◌, ◌<◌}
use mathlib.Core.Path.{◌≡◌, refl, sym, ◌∙◌, ap}
use mathlib.Core.Bool.{Bool, true, false}
use mathlib.Core.List.{List, [], ◌∷◌, ◌++◌}
use lib.Dec.{eqb}
use borrow.Author.Tests.{eq-eqb, ne_eqb}
use Rattle.paper.specs.Lists.{join_map, count}
use Rattle.paper.specs.Verdict
use Rattle.paper.specs.Verdict.{apart, over_pairs}
use Rattle.shapes.specs.declared.shape.Shape.{Shape}
use Rattle.judging.specs.Pairs.{Found, earned, fault, apart_by, apart_pair}
use Rattle.judging.specs.declared.pairs.Path.{Path}
use Rattle.shapes.specs.Edges.{meeting_of}
use Rattle.judging.specs.Told.{told}
use Rattle.judging.specs.declared.verdict.Verdict.{Verdict}
use Rattle.judging.specs.declared.verdict.Verdict.TheVariants.{Kept, Missing, Apart, Unsure}
use Rattle.judging.proofs.Counting.{count-from, count-done}

-- ---- the walk, for whatever is asked of the list of faults
module _ {B : Type 0} (ask : List Verdict.Verdict → B) (g : ℕ → ℕ → List Verdict.Verdict) (n : ℕ) where
  -- the answer for all pairs
  abbrev pub answer : B
  answer = ask (over_pairs g (count 0 n))

  -- it is the answer from entry e on
  abbrev pub Outer : ℕ → Type 0
  Outer e = ask (over_pairs g (count e (n - e))) ≡ answer

  -- the faults of entry e with f and those after it, then of the entries after e
  abbrev pub from : ℕ → ℕ → List Verdict.Verdict
  from e f = join_map (g e) (count f (n - f)) ++ over_pairs g (count (e + 1) (n - (e + 1)))

  -- it is the answer for these
  abbrev pub Inner : ℕ → ℕ → Type 0
  Inner e f = ask (from e f) ≡ answer

  pub inner_start : (e : ℕ) → e < n → Outer e → Inner e (e + 1)
  inner_start e lt o = ap (λ c. ask (over_pairs g c)) (sym (count-from e n lt)) ∙ o

  module _ (e f : ℕ) (i : Inner e f) where
    module _ (lt : f < n) where
      later : List Verdict.Verdict
      later = join_map (g e) (count (f + 1) (n - (f + 1)))

      next : (l : List Verdict.Verdict) → g e f ≡ l → ask ((l ++ later) ++ over_pairs g (count (e + 1) (n - (e + 1)))) ≡ answer
      unfolding later
      next l q =
          ap (λ k. ask ((k ++ later) ++ over_pairs g (count (e + 1) (n - (e + 1))))) (sym q)
          ∙ ap (λ c. ask (join_map (g e) c ++ over_pairs g (count (e + 1) (n - (e + 1))))) (sym (count-from f n lt)) ∙ i

      pub inner_step : g e f ≡ [] → Inner e (f + 1)
      unfolding later
      inner_step q = next [] q

      pub inner_found : (v : Verdict.Verdict) → g e f ≡ v ∷ [] → ask (v ∷ from e (f + 1)) ≡ answer
      unfolding later
      inner_found v q = next (v ∷ []) q

  pub outer_end : (e : ℕ) → n ≤ e → Outer e → ask [] ≡ answer
  outer_end e past o = ap (λ c. ask (over_pairs g c)) (sym (count-done e n past)) ∙ o

-- ---- one pair
-- what each pair of entries earns, where it is a fault
abbrev pub faults_of : Shape → List ℕ → List Bool → List ℕ → ℕ → ℕ → List Verdict.Verdict
faults_of s ways full meetings e f = fault (earned s.levels s.edges full ways (meeting_of meetings s.types e f) e f)

module _ (s : Shape) (ways : List ℕ) (full : List Bool) (meetings : List ℕ) (e f m : ℕ) (qm : m ≡ meeting_of meetings s.types e f) (v : Verdict)
    (qv : told v ≡ earned s.levels s.edges full ways m e f) where
  faults_told : faults_of s ways full meetings e f ≡ fault (told v)
  faults_told = ap (λ m. fault (earned s.levels s.edges full ways m e f)) (sym qm) ∙ ap fault (sym qv)

  pub faults_none : v ≡ Kept → faults_of s ways full meetings e f ≡ []
  faults_none q = faults_told ∙ ap (λ v. fault (told v)) q

  pub faults_one : (v ≡ Kept → ⊥) → faults_of s ways full meetings e f ≡ told v ∷ []
  faults_one h = faults_told ∙ one v h
    where
      one : (v : Verdict) → (v ≡ Kept → ⊥) → fault (told v) ≡ told v ∷ []
      one Kept h = absurd (h refl)
      one (Missing e r) h = refl
      one (Apart e f) h = refl
      one (Unsure e f) h = refl

-- ---- one pair and a 2
module _ (s : Shape) (ways meetings : List ℕ) (e f m : ℕ) (qm : m ≡ meeting_of meetings s.types e f) {path : Path}
    (w : Found s.levels s.edges ways e f path) where
  apart_by_lem : (b : Bool) → eqb path.least m ≡ b → apart_pair s ways meetings e f ≡ apart_by e f b
  apart_by_lem b q = rw (← q, qm, w.least-is) refl

  pub apart_none : path.least ≡ m → apart_pair s ways meetings e f ≡ []
  apart_none q = apart_by_lem true (eq-eqb path.least m q)

  pub apart_one : (path.least ≡ m → ⊥) → apart_pair s ways meetings e f ≡ apart e f ∷ []
  apart_one ne = apart_by_lem false (ne_eqb path.least m ne)
