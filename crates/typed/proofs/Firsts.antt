-- The first of a list's numbers that passes a test. Assumes nothing.
use Prim.Native.Nat.{ℕ, zero, suc, ◌≤◌, ◌<◌}
use native.Mathlib.Nat.{not-suc-le-zero, le_of_suc-le-suc}
use native.Mathlib.Omega.{arith}
use mathlib.Core.Path.{◌≡◌, refl, sym, ◌∙◌, ap, ap₂}
use mathlib.Core.Bool.{Bool, true, false}
use mathlib.Core.List.{List, [], ◌∷◌}
use mathlib.Core.Option.{Option, none, some, none-ne-some}
use lib.Dec.{ltb}
use lib.ListN.{length, get_or, take}
use lib.Seq.{get_or-take, length-take-le}
use borrow.Author.Tests.{ltb-false}
use Rattle.std.proofs.Common.{◌+◌, not, cond, nat_lt, unwrap_or, Some, None}
use Rattle.std.specs.List.{position, position_or_len}
use Rattle.std.proofs.lemmas.List.Recursion.{is_position_or_len}
use Rattle.std.proofs.lemmas.List.Sums.{prefix_len-le-length}
use Rattle.paper.specs.Lists.{place}
use Rattle.paper.specs.Refusals.{found}
use Rattle.tables.specs.Place.{place_of}

pub first_long : (l : List ℕ) (n : ℕ) → n ≤ length l → length (take n l) ≡ n
first_long l n le = length-take-le n l le

-- what stands before the first that passes does not pass
before_first : (p : ℕ → Bool) (l : List ℕ) (i : ℕ) → i < length l → i < place p l → p (get_or l i 0) ≡ false
before_first p [] i lt le = absurd (not-suc-le-zero lt)
before_first p (x ∷ l) i lt le = go (p x) refl i lt le (before_first p l)
  where
    go : (t : Bool) → p x ≡ t → (i : ℕ) → i < suc (length l) → i < place p (x ∷ l) → ((j : ℕ) → j < length l → j < place p l → p (get_or l j 0) ≡ false)
        → p (get_or (x ∷ l) i 0) ≡ false
    go true e i lt le on = absurd (not-suc-le-zero (rw (e, place) at le))
    go false e zero lt le on = e
    go false e (suc i) lt le on = on i (le_of_suc-le-suc lt) (le_of_suc-le-suc (rw (e, place) at le))

-- where none of the first n passes, none of them does
pub none_passes : (p : ℕ → Bool) (l : List ℕ) (n : ℕ) → n ≤ length l → n ≤ place p (take n l) → (i : ℕ) → i < n → p (get_or l i 0) ≡ false
none_passes p l n le late i lt =
    ap p (sym (get_or-take n l i 0 lt)) ∙ before_first p (take n l) i (omega (arith, first_long l n le)) (omega arith)

-- the first that passes, as the library's search tells it
place_is : (p : ℕ → Bool) (l : List ℕ) → place p l ≡ position_or_len p l
place_is p = is_position_or_len (place p) p refl (λ x l. step (p x) (place p l))
  where
    step : (t : Bool) (n : ℕ) → elim t as (λ _. ℕ) [ true ↦ 0 | false ↦ suc n ] ≡ cond t 0 (1 + n)
    step true n = refl
    step false n = omega arith

-- where a search of n numbers stops, or n, is the place of the first that passes
pub found_or_all : (p : ℕ → Bool) (l : List ℕ) (n : ℕ) → length l ≡ n → unwrap_or (position p l) n ≡ place p l
found_or_all p l n e = go (nat_lt (position_or_len p l) (length l)) refl ∙ sym (place_is p l)
  where
    go : (t : Bool) → nat_lt (position_or_len p l) (length l) ≡ t → unwrap_or (cond t (Some (position_or_len p l)) None) n ≡ position_or_len p l
    go true q = refl
    go false q = omega (arith, e, ltb-false (position_or_len p l) (length l) q, prefix_len-le-length (λ x. not (p x)) l)

-- and by place, where there is one
pub found_first : (p : ℕ → Bool) (l : List ℕ) (n : ℕ) → length l ≡ n → found (position p l) ≡ place_of (place p l) n
unfolding place_of
found_first p l n e = go (nat_lt (position_or_len p l) (length l)) ∙ ap₂ place_of (sym (place_is p l)) e
  where
    go : (t : Bool) → found (cond t (Some (position_or_len p l)) None) ≡ elim t [ true ↦ some (position_or_len p l) | false ↦ none ]
    go true = refl
    go false = refl

-- where there is none, it is n or more
pub none_first : (p n : ℕ) → none ≡ place_of p n → n ≤ p
unfolding place_of
none_first p n e = go (ltb p n) refl e
  where
    go : (t : Bool) → ltb p n ≡ t → ◌≡◌ {A = Option ℕ} none (elim t [ true ↦ some p | false ↦ none ]) → n ≤ p
    go true q e = absurd (none-ne-some p e)
    go false q e = ltb-false p n q
