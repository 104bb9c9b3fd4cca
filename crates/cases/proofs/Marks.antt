-- Marked places, of which the first are lent. Assumes nothing.
use Prim.Native.Nat.{ℕ, zero, suc, ◌-◌, ◌≤◌}
use native.Mathlib.Nat.{not-suc-le-zero, le_of_suc-le-suc}
use native.Mathlib.Omega.{arith}
use mathlib.Core.Path.{◌≡◌, refl, ◌∙◌, ap, ap₂}
use mathlib.Core.List.{List, ◌∷◌, ◌++◌, map}
use lib.ListN.{replicate, take, drop}
use Rattle.paper.specs.Format.{Format}
use Rattle.paper.specs.Adorned.{Summary}
use Rattle.paper.specs.Calls.{adorn}
use Rattle.paper.proofs.Lists.{map_append}
use Rattle.adorned.specs.Told.{told}
use Rattle.adorned.proofs.All.{map-replicate}
use Rattle.adorned.specs.declared.TypeSummary.{TypeSummary}
use Rattle.silmezga_c.specs.Numbers.{told_count}
use Rattle.silmezga_c.specs.declared.answers.Counted.{Counted}
use Rattle.cases.specs.Marked.{mark, LeftOf}

module _ {A B : Type 0} (f : A → B) (a : A) where
  front_marks : (n m : ℕ) → n ≤ m → map f (take n (replicate m a)) ≡ replicate n (f a)
  front_marks zero m le = refl
  front_marks (suc n) zero le = absurd (not-suc-le-zero le)
  front_marks (suc n) (suc m) le = ap {B = List B} (λ l. f a ∷ l) (front_marks n m (le_of_suc-le-suc le))

  rest_marks : (n m : ℕ) → map f (drop n (replicate m a)) ≡ replicate (m - n) (f a)
  rest_marks zero m = let q : m ≡ m - 0 = omega arith in map-replicate f m a ∙ ap (λ (k : ℕ). replicate k (f a)) q
  rest_marks (suc n) zero = let q : 0 ≡ 0 - suc n = omega arith in ap (λ (k : ℕ). replicate k (f a)) q
  rest_marks (suc n) (suc m) = let q : m - n ≡ suc m - suc n = omega arith in rest_marks n m ∙ ap (λ (k : ℕ). replicate k (f a)) q

-- the answer and the places after it, from what adorning ensures of the places lent
pub left_of : (f : Format) (t : List ℕ) (n : ℕ) (xs : List TypeSummary) → n ≤ 65 → xs ≡ replicate 65 mark → (r : Counted) (zs : List TypeSummary)
    → told_count r ≡ (adorn f t (map told (take n xs))).reply → map told zs ≡ (adorn f t (map told (take n xs))).summaries
    → LeftOf f t n record { answer = r; summaries = zs ++ drop n xs }
left_of f t n xs le e r zs er es =
    let m : map told (take n xs) ≡ replicate n (told mark) = ap (λ (l : List TypeSummary). map told (take n l)) e ∙ front_marks told mark n 65 le in
    record {
      reply-is = er ∙ ap (λ (l : List Summary). (adorn f t l).reply) m;
      places_are = map_append told zs (drop n xs)
          ∙ ap₂ {C = List Summary} (λ l k. l ++ k) (es ∙ ap (λ (l : List Summary). (adorn f t l).summaries) m) (ap (λ (l : List TypeSummary). map told (drop n l)) e ∙ rest_marks told mark n 65);
    }
