-- A name and a type compared from their last labels. Assumes nothing.
use Prim.Native.Nat.{ℕ, ◌-◌, ◌<◌}
use native.Mathlib.Omega.{arith}
use mathlib.Core.Path.{◌≡◌, refl, ◌∙◌, ap, ap₂}
use mathlib.Core.Bool.{Bool, true, false}
use mathlib.Core.List.{List, [], ◌∷◌, ◌++◌}
use lib.ListN.{length, drop, length-append, drop_of_length-le}
use lib.Seq.{drop-append-le}
use Rattle.paper.specs.Lists.{same}
use Rattle.paper.proofs.Lists.{same_eq, eq_same, snoc_inj}
use Rattle.paper.proofs.Papers.{same_test}
use Rattle.grammar.specs.Grammar.{Name}
use Rattle.grammar.specs.Typed.{matches}

-- ---- lists with one more at their ends
pub unequal : (a b : List ℕ) → (a ≡ b → ⊥) → same a b ≡ false
unequal a b ne = go (same a b) refl
  where
    go : (t : Bool) → same a b ≡ t → same a b ≡ false
    go true e = absurd (ne (same_eq a b e))
    go false e = e

same_more : (xs ys : List ℕ) (a b : ℕ) → a ≡ b → same (xs ++ (a ∷ [])) (ys ++ (b ∷ [])) ≡ same xs ys
same_more xs ys a b e =
    same_test (same (xs ++ (a ∷ [])) (ys ++ (b ∷ []))) (same xs ys) (λ h. eq_same (snoc_inj xs ys a b (same_eq (xs ++ (a ∷ [])) (ys ++ (b ∷ [])) h)).0)
    (λ h. eq_same (ap₂ (λ l x. l ++ (x ∷ [])) (same_eq xs ys h) e))

-- ---- matching
-- as many labels from the end of a type as the name has
abbrev ending : List ℕ → List ℕ → List ℕ
ending ns v = drop (length v - length ns) v

ending_more : (ns v : List ℕ) (a b : ℕ) → ending (ns ++ (a ∷ [])) (v ++ (b ∷ [])) ≡ ending ns v ++ (b ∷ [])
ending_more ns v a b =
    let less : length (v ++ (b ∷ [])) - length (ns ++ (a ∷ [])) ≡ length v - length ns = omega (arith, length-append ns (a ∷ []), length-append v (b ∷ [])) in
    ap (λ n. drop n (v ++ (b ∷ []))) less ∙ drop-append-le (length v - length ns) v (b ∷ []) (omega arith)

abbrev pub name_with : Bool → List ℕ → Name
name_with w ns = record { whole = w; labels = ns }

-- where the last labels are equal, the rest decides
pub matches-more : (w : Bool) (ns v : List ℕ) (a b : ℕ) → a ≡ b → matches (name_with w (ns ++ (a ∷ []))) (v ++ (b ∷ [])) ≡ matches (name_with w ns) v
unfolding matches
matches-more true ns v a b e = same_more ns v a b e
matches-more false ns v a b e = ap (same (ns ++ (a ∷ []))) (ending_more ns v a b) ∙ same_more ns (ending ns v) a b e

-- where they differ, it does not match
pub matches-not : (w : Bool) (ns v : List ℕ) (a b : ℕ) → (a ≡ b → ⊥) → matches (name_with w (ns ++ (a ∷ []))) (v ++ (b ∷ [])) ≡ false
unfolding matches
matches-not true ns v a b ne = unequal (ns ++ (a ∷ [])) (v ++ (b ∷ [])) (λ e. ne (snoc_inj ns v a b e).1)
matches-not false ns v a b ne =
    ap (same (ns ++ (a ∷ []))) (ending_more ns v a b)
    ∙ unequal (ns ++ (a ∷ [])) (ending ns v ++ (b ∷ [])) (λ e. ne (snoc_inj ns (ending ns v) a b e).1)

-- a type with fewer labels than the name is not matched
pub matches_short : (w : Bool) (ns v : List ℕ) → length v < length ns → matches (name_with w ns) v ≡ false
unfolding matches
matches_short true ns v lt = unequal ns v (λ e. omega (arith, ap length e))
matches_short false ns v lt =
    let less : length v - length ns ≡ 0 = omega arith in
    ap (λ n. same ns (drop n v)) less ∙ unequal ns v (λ e. omega (arith, ap length e))

-- a name with no label left matches
pub matches_end : (v : List ℕ) → matches (name_with false []) v ≡ true
unfolding matches
matches_end v = ap (same []) (drop_of_length-le v {i = length v - 0} (omega arith))

pub matches-whole : (v : List ℕ) → matches (name_with true []) v ≡ same [] v
unfolding matches
matches-whole v = refl
