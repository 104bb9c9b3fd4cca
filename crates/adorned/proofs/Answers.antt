-- What adorning answers and leaves of what it was lent, from the figures computed by value. Assumes nothing.
use Prim.Native.Nat.{ℕ, zero, suc, ◌-◌, ◌≤◌}
use native.Mathlib.Omega.{arith}
use mathlib.Core.Path.{◌≡◌, refl, sym, ◌∙◌, ap, ap₂, subst}
use mathlib.Core.List.{List, [], ◌∷◌, ◌++◌, map}
use lib.Dec.{ltb}
use lib.ListN.{length, take, drop, replicate, length-append, length-map}
use lib.Seq.{take-append_seam}
use borrow.Author.Tests.{ltb-false}
use Rattle.paper.specs.Format.{Format, most_types}
use Rattle.paper.specs.Adorned.{Summary, adorned}
use Rattle.paper.specs.Calls.{Answer, refused, given, ◌>>=◌, refuse, reply, tests1_4, after, adorning, adorn}
use Rattle.paper.proofs.Calls.{bind_given, refuse-given, given-same}
use Rattle.paper.proofs.Lists.{map_append, map-take}
use Rattle.adorned.specs.Told.{told, placed, no_summary, Says, adorn_figures}
use Rattle.adorned.specs.Lent.{adorned_types}
use Rattle.std.specs.Prelude.{Ok, Err}
use Rattle.paper.specs.Refusals.{refusal_number, refusal_place}
use Rattle.paper.specs.declared.refusal.Refusal.{Refusal}
use Rattle.paper.proofs.Refusals.{numbered}
use Rattle.adorned.specs.declared.Adorned.{Adorned}
use Rattle.adorned.specs.declared.TypeSummary.{TypeSummary}
use Rattle.adorned.proofs.Fronts.{front}

-- no more summaries are given than places were lent
given_few : (f : Format) (b : List ℕ) (lent : ℕ) (xs : List Summary) → adorning f b lent ≡ given xs → length xs ≤ lent
unfolding adorning
given_few f b lent xs h =
    let (rs, h₁, k₁) = bind_given (tests1_4 f b) _ xs h in
    let (u, h₂, k₂) = bind_given (refuse 10 (ltb lent (length (adorned rs)))) _ xs k₁ in
    subst (λ (z : List Summary). length z ≤ lent) (given-same (adorned rs) xs k₂) (ltb-false lent (length (adorned rs)) (refuse-given 10 (ltb lent (length (adorned rs))) u h₂))

module _ {A B : Type 0} (f : A → B) where
  map-drop : (n : ℕ) (xs : List A) → map f (drop n xs) ≡ drop n (map f xs)
  map-drop zero xs = refl
  map-drop (suc n) [] = refl
  map-drop (suc n) (x ∷ xs) = map-drop n xs

  map_front : (n : ℕ) (new before : List A) → map f (front n new before) ≡ front n (map f new) (map f before)
  map_front n new before = map_append f (take n new) (drop n before) ∙ ap₂ {C = List B} (λ x y. x ++ y) (map-take f n new) (map-drop n before)

-- the 64 places hold every summary that is given
placed_few : (xs : List Summary) → length (placed xs) ≡ most_types → length xs ≤ most_types
placed_few xs e = omega (arith, sym (length-append xs (replicate (most_types - length xs) no_summary)) ∙ e)

-- what is to be shown of an answer r and the summaries that were lent, where adorning gives a
pub record Answered (lent : ℕ) (before : List Summary) (a : Answer (List Summary)) (r : Adorned) : Type 0 where
  pub in_lent : r.count ≤ lent
  pub in_placed : r.count ≤ most_types
  pub reply-is : record { number = 0; place = 0; rest = r.count } ≡ reply 0 (a >>= (λ (xs : List Summary). given (length xs)))
  pub left_is : front r.count (map told r.summaries) before ≡ after before a

answered : (lent : ℕ) (before : List Summary) (a : Answer (List Summary)) (r : Adorned) → ((xs : List Summary) → a ≡ given xs → length xs ≤ lent) → length r.summaries ≡ most_types → Says (reply [] a) (Ok r) → Answered lent before a r
answered lent before (refused k p) r few many s = record {
  in_lent = subst (λ (n : ℕ). n ≤ lent) (sym s.given_is.0) (omega arith);
  in_placed = subst (λ (n : ℕ). n ≤ most_types) (sym s.given_is.0) (omega arith);
  reply-is = λ i. record { number = s.number_is i; place = s.place_is i; rest = s.given_is.0 i };
  left_is = ap (λ (n : ℕ). front n (map told r.summaries) before) s.given_is.0;
}
answered lent before (given xs) r few many s = record {
  in_lent = subst (λ (n : ℕ). n ≤ lent) (sym s.given_is.0) (few xs refl);
  in_placed = subst (λ (n : ℕ). n ≤ most_types) (sym s.given_is.0) (placed_few xs (ap length (sym s.given_is.1) ∙ length-map r.summaries told ∙ many));
  reply-is = λ i. record { number = s.number_is i; place = s.place_is i; rest = s.given_is.0 i };
  left_is = ap₂ (λ (n : ℕ) (l : List Summary). front n l before) s.given_is.0 s.given_is.1 ∙ ap (λ (l : List Summary). l ++ drop (length xs) before) (take-append_seam xs (replicate (most_types - length xs) no_summary));
}

-- a refusal is the answer's
answered_refusal : (a : Answer (List Summary)) (e : Refusal) → Says (reply [] a) (Err e) → a ≡ refused (refusal_number e) (refusal_place e)
answered_refusal (refused k p) e s = ap₂ {C = Answer (List Summary)} (λ n q. refused n q) (sym s.number_is) (sym s.place_is)
answered_refusal (given xs) e s = absurd (numbered e s.number_is)

-- what is to be shown of a refusal and the summaries that were lent, in the terms of the call
module _ (f : Format) (t : List ℕ) (ys : List TypeSummary) (e : Refusal) (s : Says (adorn_figures f t (length ys)) (Err e)) where
  refusal : adorning f t (length (map told ys)) ≡ refused (refusal_number e) (refusal_place e)
  unfolding adorn_figures
  refusal = ap (adorning f t) (length-map ys told) ∙ answered_refusal (adorning f t (length ys)) e s

  pub refusal_answered : adorned_types (Err e) ≡ (adorn f t (map told ys)).reply
  unfolding adorn
  refusal_answered = sym (ap (λ (a : Answer (List Summary)). reply 0 (a >>= (λ (xs : List Summary). given (length xs)))) refusal)

  pub all_left : map told ys ≡ (adorn f t (map told ys)).summaries
  unfolding adorn
  all_left = sym (ap (after (map told ys)) refusal)

-- what is to be shown of an answer r and the summaries that were lent, in the terms of the call
module _ (f : Format) (t : List ℕ) (ys : List TypeSummary) (r : Adorned) (many : length r.summaries ≡ most_types) (s : Says (adorn_figures f t (length ys)) (Ok r)) where
  abbrev a : Answer (List Summary)
  a = adorning f t (length ys)

  all : Answered (length ys) (map told ys) a r
  unfolding adorn_figures
  all = answered (length ys) (map told ys) a r (given_few f t (length ys)) many s

  pub fits_lent : r.count ≤ length ys
  fits_lent = all.in_lent

  pub fits_placed : r.count ≤ most_types
  fits_placed = all.in_placed

  pub answer : adorned_types (Ok r.count) ≡ (adorn f t (map told ys)).reply
  unfolding adorn
  answer = all.reply-is ∙ ap (λ (n : ℕ). reply 0 (adorning f t n >>= (λ (xs : List Summary). given (length xs)))) (sym (length-map ys told))

  pub left : map told (front r.count r.summaries ys) ≡ (adorn f t (map told ys)).summaries
  unfolding adorn
  left = map_front told r.count r.summaries ys ∙ all.left_is ∙ ap (λ (n : ℕ). after (map told ys) (adorning f t n)) (sym (length-map ys told))
