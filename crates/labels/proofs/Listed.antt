-- The pairs of a list one by one, and what is found among them. Assumes nothing.
use Prim.Native.Nat.{ℕ, zero, suc, ◌+◌, ◌*◌, ◌/◌, ◌%◌, ◌≤◌, ◌<◌}
use native.Mathlib.Nat.{div-add-mod', not-suc-le-zero, le_of_suc-le-suc}
use native.Mathlib.Omega.{arith}
use mathlib.Core.Path.{◌≡◌, refl, sym, ◌∙◌, ap, ap₂, subst}
use mathlib.Core.Bool.{Bool, true, false, not, ◌&&◌, ◌||◌}
use mathlib.Core.List.{List, [], ◌∷◌}
use lib.Dec.{eqb, ltb}
use lib.ListN.{length, get_or, take, drop}
use lib.Seq.{drop-cons, get_or-take, length-take-le, take_all}
use borrow.Author.Tests.{ltb-true, ltb-false, lt-ltb, le-ltb}
use Rattle.std.proofs.Common.{Option, Some, None, cond, is_some}
use Rattle.std.specs.List.{position, position_or_len}
use Rattle.paper.specs.Lists.{any, place}
use Rattle.paper.specs.Format.{Format}
use Rattle.paper.specs.Labels.{Pair, pairs, listed, converted, unlisted}
use Rattle.labels.specs.Pairs.{pair_at, has}
use Rattle.labels.proofs.Ranged.{place_is}

-- ---- how many
-- The last may be a half pair.
pub counted : (l : List ℕ) → (length l ≤ 2 * length (pairs l)) × (2 * length (pairs l) ≤ length l + 1)
counted [] = (omega arith, omega arith)
counted (x ∷ []) = (omega arith, omega arith)
counted (x ∷ y ∷ l) = let (a, b) = counted l in (omega (arith, a), omega (arith, b))

pub count-is : (l : List ℕ) → length l / 2 + length l % 2 ≡ length (pairs l)
count-is l = let (a, b) = counted l in omega (arith, a, b, div-add-mod' (length l) 2)

-- ---- each from its place on
abbrev pub no_pair : Pair
no_pair = record { old = 0; new = 0 }

pub pair_at_lem : (l : List ℕ) (i : ℕ) → i < length (pairs l) → get_or (pairs l) i no_pair ≡ pair_at l i
pair_at_lem [] i lt = absurd (not-suc-le-zero lt)
pair_at_lem (x ∷ []) zero lt = refl
pair_at_lem (x ∷ []) (suc i) lt = absurd (not-suc-le-zero (le_of_suc-le-suc lt))
pair_at_lem (x ∷ y ∷ l) zero lt = refl
pair_at_lem (x ∷ y ∷ l) (suc i) lt =
    let twice : 2 * suc i ≡ suc (suc (2 * i)) = omega arith in
    let next : 2 * suc i + 1 ≡ suc (suc (2 * i + 1)) = omega arith in
    pair_at_lem l i (le_of_suc-le-suc lt)
    ∙ ap₂ (λ (a b : ℕ). record { old = get_or (x ∷ y ∷ l) a 0; new = get_or (x ∷ y ∷ l) b 0 }) (sym twice) (sym next)

pub next_pair : (l : List ℕ) (i : ℕ) → i < length (pairs l) → drop i (pairs l) ≡ pair_at l i ∷ drop (suc i) (pairs l)
next_pair l i lt = drop-cons (pairs l) i no_pair lt ∙ ap (λ (p : Pair). p ∷ drop (suc i) (pairs l)) (pair_at_lem l i lt)

-- so among the first n of them
module _ (l : List ℕ) (n : ℕ) (le : n ≤ length (pairs l)) where
  pub first-pairs : length (take n (pairs l)) ≡ n
  first-pairs = length-take-le n (pairs l) le

  pub next_of_first : (i : ℕ) → i < n → drop i (take n (pairs l)) ≡ pair_at l i ∷ drop (suc i) (take n (pairs l))
  next_of_first i lt =
      drop-cons (take n (pairs l)) i no_pair (omega (arith, first-pairs))
      ∙ ap (λ (p : Pair). p ∷ drop (suc i) (take n (pairs l))) (get_or-take n (pairs l) i no_pair lt ∙ pair_at_lem l i (omega arith))

-- ---- what a pair has
pub side_has : (l : List ℕ) (i side x v : ℕ) → side ≤ 1 → v ≡ get_or l (2 * i + side) 0 → has side x (pair_at l i) ≡ eqb v x
side_has l i zero x v le e = ap (λ k. eqb k x) (ap (λ k. get_or l k 0) (omega arith) ∙ sym e)
side_has l i (suc zero) x v le e = ap (λ k. eqb k x) (sym e)
side_has l i (suc (suc side)) x v le e = absurd (not-suc-le-zero (le_of_suc-le-suc le))

-- ---- what is found
-- one further on both sides
suc-ltb : (k n : ℕ) → ltb (suc k) (suc n) ≡ ltb k n
suc-ltb k n = go (ltb k n) refl
  where
    go : (b : Bool) → ltb k n ≡ b → ltb (suc k) (suc n) ≡ b
    go true e = lt-ltb (suc k) (suc n) (omega (arith, ltb-true k n e))
    go false e = le-ltb (suc k) (suc n) (omega (arith, ltb-false k n e))

-- A place within the list has what is looked for; the list's length says that there is none.
pub place_any : {A : Type 0} (p : A → Bool) (xs : List A) → any p xs ≡ ltb (place p xs) (length xs)
place_any p [] = refl
place_any {A} p (x ∷ xs) = at (p x) (any p xs) (place p xs) (place_any p xs)
  where
    at : (b c : Bool) (k : ℕ) → c ≡ ltb k (length xs) → b || c ≡ ltb (elim b as (λ _. ℕ) [ true ↦ 0 | false ↦ suc k ]) (suc (length xs))
    at true c k e = sym (lt-ltb 0 (suc (length xs)) (omega arith))
    at false c k e = e ∙ sym (suc-ltb k (length xs))

pub place_most : {A : Type 0} (p : A → Bool) (xs : List A) → place p xs ≤ length xs
place_most p [] = omega arith
place_most p (x ∷ xs) = at (p x) (place_most p xs)
  where
    at : (b : Bool) → place p xs ≤ length xs → elim b as (λ _. ℕ) [ true ↦ 0 | false ↦ suc (place p xs) ] ≤ suc (length xs)
    at true le = omega arith
    at false le = omega (arith, le)

module _ (x : ℕ) where
  -- What a label becomes is told by the first pair that has it as its old one.
  pub converted_found : (ps : List Pair) → place (has 0 x) ps < length ps → converted ps x ≡ (get_or ps (place (has 0 x) ps) no_pair).new
  converted_found [] lt = absurd (not-suc-le-zero lt)
  converted_found (p ∷ ps) lt = at (eqb p.old x) lt (λ (l : place (has 0 x) ps < length ps). converted_found ps l)
    where
      at : (b : Bool) → elim b as (λ _. ℕ) [ true ↦ 0 | false ↦ suc (place (has 0 x) ps) ] < suc (length ps)
          → (place (has 0 x) ps < length ps → converted ps x ≡ (get_or ps (place (has 0 x) ps) no_pair).new)
          → elim b as (λ _. ℕ) [ true ↦ p.new | false ↦ converted ps x ]
          ≡ (get_or (p ∷ ps) (elim b as (λ _. ℕ) [ true ↦ 0 | false ↦ suc (place (has 0 x) ps) ]) no_pair).new
      at true l rest = refl
      at false l rest = rest (le_of_suc-le-suc l)

  pub converted-stays : (ps : List Pair) → length ps ≤ place (has 0 x) ps → converted ps x ≡ x
  converted-stays [] le = refl
  converted-stays (p ∷ ps) le = at (eqb p.old x) le (λ (l : length ps ≤ place (has 0 x) ps). converted-stays ps l)
    where
      at : (b : Bool) → suc (length ps) ≤ elim b as (λ _. ℕ) [ true ↦ 0 | false ↦ suc (place (has 0 x) ps) ]
          → (length ps ≤ place (has 0 x) ps → converted ps x ≡ x) → elim b as (λ _. ℕ) [ true ↦ p.new | false ↦ converted ps x ] ≡ x
      at true l rest = absurd (not-suc-le-zero l)
      at false l rest = rest (le_of_suc-le-suc l)

-- What its position says of the list: an element there, or none in all of it.
module _ {A : Type 0} (p : A → Bool) where
  module _ (xs : List A) where
    abbrev pub Told : Option ℕ → Type 0
    Told o = elim o [ Some i ↦ (i ≡ place p xs) × (i < length xs) | None ↦ length xs ≤ place p xs ]

    abbrev by_test : Bool → Option ℕ
    by_test b = cond b (Some (position_or_len p xs)) None

    pub position_found : (i : ℕ) → i ≡ place p xs → i < length xs → Some i ≡ position p xs
    position_found i e lt = ap Some (e ∙ place_is p xs) ∙ sym (ap by_test (lt-ltb (position_or_len p xs) (length xs) (omega (arith, e, place_is p xs))))

    pub position_missed : (n : ℕ) → n ≡ place p xs → length xs ≡ n → None ≡ position p xs
    position_missed n e long = sym (ap by_test (le-ltb (position_or_len p xs) (length xs) (omega (arith, e, place_is p xs))))

    pub position_told : (o : Option ℕ) → o ≡ position p xs → Told o
    position_told o e = subst Told (sym e) (go (ltb (position_or_len p xs) (length xs)) refl)
      where
        go : (b : Bool) → ltb (position_or_len p xs) (length xs) ≡ b → Told (by_test b)
        go true t = (sym (place_is p xs), ltb-true (position_or_len p xs) (length xs) t)
        go false t = omega (arith, place_is p xs, ltb-false (position_or_len p xs) (length xs) t)

    -- There is one exactly if an element passes.
    pub position_any : (o : Option ℕ) → o ≡ position p xs → is_some o ≡ any p xs
    position_any o e =
        ap is_some e ∙ go (ltb (position_or_len p xs) (length xs)) ∙ ap (λ k. ltb k (length xs)) (sym (place_is p xs)) ∙ sym (place_any p xs)
      where
        go : (b : Bool) → is_some (by_test b) ≡ b
        go true = refl
        go false = refl

pub flipped : (a b : Bool) → a ≡ not b → b ≡ not a
flipped a true e = ap not (sym e)
flipped a false e = ap not (sym e)

-- ---- what `find` tells, among all pairs of a list of numbers
module _ (l : List ℕ) (n x : ℕ) (en : n ≡ length (pairs l)) where
  whole : take n (pairs l) ≡ pairs l
  whole = take_all n (pairs l) (omega (arith, en))

  abbrev told : Option ℕ → Type 0
  told o = o ≡ position (has 0 x) (take n (pairs l))

  all_told : (o : Option ℕ) → told o → Told (has 0 x) (pairs l) o
  all_told o e = position_told (has 0 x) (pairs l) o (e ∙ ap (position (has 0 x)) whole)

  pub found_within : (i : ℕ) → told (Some i) → i < length (pairs l)
  found_within i e = (all_told (Some i) e).1

  pub converts_found : (i : ℕ) → told (Some i) → get_or l (2 * i + 1) 0 ≡ converted (pairs l) x
  converts_found i e =
      let (at, lt) = all_told (Some i) e in
      sym (ap (λ (p : Pair). p.new) (pair_at_lem l i lt)) ∙ ap (λ k. (get_or (pairs l) k no_pair).new) at ∙ sym (converted_found x (pairs l) (omega (arith, at, lt)))

  pub converts_stays : told None → x ≡ converted (pairs l) x
  converts_stays e = sym (converted-stays x (pairs l) (all_told None e))

  -- A label above the largest is not in the list exactly if none has it.
  pub unlisted-at : (f : Format) → f.labels < x → (o : Option ℕ) → told o → not (is_some o) ≡ unlisted f (pairs l) x
  unfolding unlisted
  unlisted-at f above o e =
      ap not (position_any (has 0 x) (pairs l) o (e ∙ ap (position (has 0 x)) whole))
      ∙ sym (ap (λ a. a && not (listed (pairs l) x)) (lt-ltb f.labels x above))

-- A label up to the largest is none of these.
pub unlisted-small : (f : Format) (ps : List Pair) (x : ℕ) → x ≤ f.labels → false ≡ unlisted f ps x
unfolding unlisted
unlisted-small f ps x le = sym (ap (λ a. a && not (listed ps x)) (le-ltb f.labels x le))
