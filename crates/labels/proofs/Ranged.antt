-- A test of the numbers of a range that is a test of a list's elements by their places. Assumes nothing.
use Prim.Native.Nat.{ℕ, zero, suc, ◌+◌, ◌<◌}
use native.Mathlib.Numerals.{add-one}
use native.Mathlib.Omega.{arith}
use mathlib.Core.Path.{◌≡◌, refl, sym, ◌∙◌, ap, ap₂}
use mathlib.Core.Bool.{Bool, true, false, ◌||◌, not, cond}
use mathlib.Core.List.{List, ◌∷◌}
use mathlib.Core.Option.{none, some}
use lib.Dec.{ltb}
use lib.ListN.{length, drop, drop_of_length-le}
use Rattle.std.proofs.Common.{Some, None}
use Rattle.std.proofs.lemmas.List.FromFn.{length-range_with_len}
use Rattle.std.proofs.lemmas.List.Recursion.{is_position_or_len}
use Rattle.std.specs.List.{list_any, position, position_or_len, range_with_len}
use Rattle.paper.specs.Lists.{any, place}
use Rattle.paper.specs.Refusals.{found}
use Rattle.tables.specs.Place.{place_of}

module _ {A : Type 0} (p : A → Bool) where
  -- the place of the first element that passes, in the two words for it
  pub place_is : (xs : List A) → place p xs ≡ position_or_len p xs
  place_is = is_position_or_len (place p) p refl (λ x xs. at (p x) (place p xs))
    where
      at : (b : Bool) (k : ℕ) → elim b as (λ _. ℕ) [ true ↦ 0 | false ↦ suc k ] ≡ cond b 0 (1 + k)
      at true k = refl
      at false k = omega arith

  -- where a search of a list stops
  pub found_place : (xs : List A) → found (position p xs) ≡ place_of (place p xs) (length xs)
  unfolding place_of
  found_place xs = go (ltb (position_or_len p xs) (length xs)) ∙ ap (λ k. place_of k (length xs)) (sym (place_is xs))
    where
      go : (b : Bool) → found (cond b (Some (position_or_len p xs)) None) ≡ elim b [ true ↦ some (position_or_len p xs) | false ↦ none ]
      go true = refl
      go false = refl

  module _ (q : ℕ → Bool) (xs : List A) where
    -- The test of place i is that of the element there.
    abbrev pub Placed : Type 0
    Placed = (i : ℕ) → i < length xs → (x : A) × (drop i xs ≡ x ∷ drop (suc i) xs) × (q i ≡ p x)

    module _ (placed : Placed) where
      any_from : (a n : ℕ) → a + n ≡ length xs → list_any q (range_with_len a n) ≡ any p (drop a xs)
      any_from a zero e = sym (ap (any p) (drop_of_length-le xs {i = a} (omega (arith, e))))
      any_from a (suc n) e =
          let (x, next, same) = placed a (omega (arith, e)) in
          ap₂ (λ s t. s || t) same (any_from (a + 1) n (omega (arith, e)) ∙ ap (λ k. any p (drop k xs)) (add-one a)) ∙ sym (ap (any p) next)

      place_from : (a n : ℕ) → a + n ≡ length xs → position_or_len q (range_with_len a n) ≡ place p (drop a xs)
      place_from a zero e = sym (ap (place p) (drop_of_length-le xs {i = a} (omega (arith, e))))
      place_from a (suc n) e =
          let (x, next, same) = placed a (omega (arith, e)) in
          ap₂ step same (place_from (a + 1) n (omega (arith, e)) ∙ ap (λ k. place p (drop k xs)) (add-one a))
          ∙ as_place (p x) (place p (drop (suc a) xs)) ∙ sym (ap (place p) next)
        where
          step : Bool → ℕ → ℕ
          step b k = cond (not b) (1 + k) 0

          as_place : (b : Bool) (k : ℕ) → step b k ≡ elim b as (λ _. ℕ) [ true ↦ 0 | false ↦ suc k ]
          as_place true k = refl
          as_place false k = omega arith

      module _ (n : ℕ) (long : n ≡ length xs) where
        pub any_ranged : list_any q (range_with_len 0 n) ≡ any p xs
        any_ranged = any_from 0 n (omega (arith, long))

        pub position_ranged : position q (range_with_len 0 n) ≡ position p xs
        position_ranged =
            ap₂ (λ k m. cond (ltb k m) (Some k) None) (place_from 0 n (omega (arith, long)) ∙ place_is xs) (length-range_with_len 0 n ∙ long)
