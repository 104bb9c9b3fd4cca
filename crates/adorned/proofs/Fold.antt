-- Least and greatest, one count after the other. Assumes nothing.
use Prim.Native.Nat.{ℕ, min, max}
use native.Mathlib.Omega.{arith}
use mathlib.Core.Path.{◌≡◌, refl, ◌∙◌}
use mathlib.Core.List.{List, [], ◌∷◌}
use Rattle.std.specs.Prelude.{Option, None, Some}
use Rattle.paper.specs.Lists.{least, most}
use Rattle.adorned.specs.declared.Range.{Range}
use Rattle.adorned.specs.Runs.{with_count, CountRange}

-- zeros where nothing is counted
abbrev pub ended : Option Range → Range
ended None = record { least = 0; greatest = 0 }
ended (Some r) = r

-- the range in the end, with these counts still to come
abbrev pub ranged : Option Range → List ℕ → Range
ranged r [] = ended r
ranged r (c ∷ cs) = ranged (Some (with_count r c)) cs

least_from : (r : Range) (cs : List ℕ) → (ranged (Some r) cs).least ≡ least (r.least ∷ cs)
least_from r [] = refl
least_from r (c ∷ []) = refl
least_from r (c ∷ d ∷ cs) = least_from (with_count (Some r) c) (d ∷ cs) ∙ swap r.least c (least (d ∷ cs)) (d ∷ cs) refl
  where
    swap : (l c x : ℕ) (ds : List ℕ) → x ≡ least (d ∷ cs) → min (min l c) (least (d ∷ cs)) ≡ min l (min c (least (d ∷ cs)))
    swap l c x ds e = omega arith

greatest_from : (r : Range) (cs : List ℕ) → (ranged (Some r) cs).greatest ≡ max r.greatest (most (λ n. n) cs)
greatest_from r [] = omega arith
greatest_from r (c ∷ cs) = greatest_from (with_count (Some r) c) cs ∙ (omega arith)

pub ranged_all : (cs : List ℕ) → CountRange cs (ranged None cs).least (ranged None cs).greatest
ranged_all [] = (refl, refl)
ranged_all (c ∷ cs) = (least_from (with_count None c) cs, greatest_from (with_count None c) cs)
