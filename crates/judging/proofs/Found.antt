-- What the search for a row without a partner says, by what it found. Assumes nothing.
use Prim.Native.Nat.{ℕ}
use native.Mathlib.Omega.{arith}
use mathlib.Core.Path.{◌≡◌, refl, ap}
use mathlib.Core.List.{List, [], ◌∷◌, ◌++◌, map}
use Rattle.paper.specs.Lists.{first_or}
use Rattle.paper.specs.Verdict
use Rattle.paper.specs.Verdict.{kept, missing, verdict_numbers}
use Rattle.shapes.specs.declared.shape.Shape.{Shape}
use Rattle.partners.specs.Closest.{alone_rows}
use Rattle.judging.specs.Told.{told}
use Rattle.judging.specs.Lone.{lone_from}
use Rattle.judging.specs.declared.verdict.Verdict.{Verdict}
use Rattle.judging.specs.declared.verdict.Verdict.TheVariants.{Kept, Missing, Apart, Unsure}
use Rattle.judging.proofs.Earned.{join_related, FirstIn, first_more, first_fault_lem}

-- a verdict of another variant is not kept
pub not_kept : (v : Verdict) → (v ≡ Kept → ⊥) → told v ≡ kept → ⊥
not_kept Kept h q = h refl
not_kept (Missing e r) h q = omega (arith, ap (λ v. first_or 0 (verdict_numbers v)) q)
not_kept (Apart e f) h q = omega (arith, ap (λ v. first_or 0 (verdict_numbers v)) q)
not_kept (Unsure e f) h q = omega (arith, ap (λ v. first_or 0 (verdict_numbers v)) q)

-- the first of two lists is the first of the former, unless that is kept
pub first_found : (xs ys : List Verdict.Verdict) → (first_or kept xs ≡ kept → ⊥) → first_or kept (xs ++ ys) ≡ first_or kept xs
first_found [] ys h = absurd (h refl)
first_found (x ∷ xs) ys h = refl

-- where the first row without a partner is kept, there is none
pub none-lone : (levels types : List ℕ) (rows : ℕ) (s : Shape) (c n : ℕ) → first_or kept (lone_from levels types rows s c n) ≡ kept
    → lone_from levels types rows s c n ≡ []
unfolding lone_from
none-lone levels types rows s c n =
    join_related FirstIn (λ q. refl) first_more (λ e. []) (λ c. map (missing c) (alone_rows levels types rows s c)) c n
    (λ e ge lt. first-lone e (alone_rows levels types rows s e))
  where
    first-lone : (e : ℕ) (rs : List ℕ) → FirstIn [] (map (missing e) rs)
    first-lone e [] q = refl
    first-lone e (r ∷ rs) q = first_more [] [] (missing e r ∷ []) (map (missing e) rs) (first_fault_lem (missing e r)) (first-lone e rs) q
