-- A number read digit by digit. Assumes nothing.
use Prim.Native.Nat.{ℕ, ◌+◌, ◌*◌, ◌-◌, ◌^◌, ◌≤◌, ◌<◌}
use native.Mathlib.Nat.{pow-suc, one-le-pow}
use native.Mathlib.Numerals.{add-one}
use native.Mathlib.Omega.{arith}
use mathlib.Core.Path.{◌≡◌, refl, sym, ◌∙◌, ap, ap₂, subst}
use mathlib.Core.Bool.{Bool, true, false}
use mathlib.Core.List.{List, [], ◌∷◌, ◌++◌}
use lib.Dec.{ltb}
use lib.ListN.{length, get_or, take}
use lib.Seq.{take-suc, take-length}
use borrow.Author.Tests.{ltb-true, ltb-false}
use Rattle.paper.specs.Lists.{Has, first_or}
use Rattle.paper.proofs.Lists.{get_d_has}
use Rattle.grammar.specs.Text.{digit, decimal}
use Rattle.grammar.proofs.Decimals.{decimal-one, decimal-more, decimal-some, decimal_digits, decimal-first}
use Rattle.names.specs.Word.{most_digits, NumberOf}

-- ---- what is no number
module _ (w : List ℕ) where
  no_number_lem : ((n : ℕ) → 0 < n → length (decimal n) ≤ most_digits → decimal n ≡ w → ⊥) → NumberOf w 0
  no_number_lem none = record { number_is = λ lt. absurd (let z : ⊥ = omega arith in z); number-none = λ _. none }

  pub too_long : most_digits < length w → NumberOf w 0
  too_long lt = no_number_lem (λ n some few e. omega (arith, ap length e))

  -- every byte of a number is a digit
  digits_only : (n : ℕ) → decimal n ≡ w → (i : ℕ) → i < length w → (digit 0 ≤ get_or w i 0) × (get_or w i 0 ≤ digit 9)
  digits_only n e i lt = decimal_digits n (get_or w i 0) (subst (Has (get_or w i 0)) (sym e) (get_d_has 0 w i lt))

  pub below_digits : (i : ℕ) → i < length w → get_or w i 0 < digit 0 → NumberOf w 0
  below_digits i lt low = no_number_lem (λ n some few e. omega (arith, (digits_only n e i lt).0))

  pub above_digits : (i : ℕ) → i < length w → digit 9 < get_or w i 0 → NumberOf w 0
  above_digits i lt high = no_number_lem (λ n some few e. omega (arith, (digits_only n e i lt).1))

first_place_lem : (w : List ℕ) → first_or 0 w ≡ get_or w 0 0
first_place_lem [] = refl
first_place_lem (x ∷ w) = refl

-- ---- the digits passed
-- The first i digits of the text are those of v, which is 0 only where there are none.
pub record Passed (w : List ℕ) (i v : ℕ) : Type 0 where
  pub some : 0 < i → 0 < v
  pub digits : 0 < v → decimal v ≡ take i w
  pub small : v < 10 ^ i

pub none_passed : (w : List ℕ) → Passed w 0 0
none_passed w = record { some = λ lt. lt; digits = λ lt. absurd (let z : ⊥ = omega arith in z); small = one-le-pow 0 10 (omega arith) }

module _ {w : List ℕ} {i v : ℕ} (p : Passed w i v) where
  none_before : v ≡ 0 → i ≡ 0
  none_before e = go (ltb 0 i) refl
    where
      go : (b : Bool) → ltb 0 i ≡ b → i ≡ 0
      go true t = absurd (let z : ⊥ = omega (arith, p.some (ltb-true 0 i t)) in z)
      go false t = omega (arith, ltb-false 0 i t)

  module _ (lt : i < length w) (b : ℕ) (here : b ≡ get_or w i 0) (low : digit 0 ≤ b) (high : b ≤ digit 9) where
    -- with a first digit 0 it is none
    pub leading_zero : 10 * v + (b - digit 0) ≡ 0 → NumberOf w 0
    leading_zero e =
        let start = none_before (omega arith) in
        no_number_lem w (λ n some few q. omega (arith, decimal-first n some, ap (first_or 0) q, first_place_lem w, here, ap (λ j. get_or w j 0) start))

    one_more : take (i + 1) w ≡ take i w ++ (b ∷ [])
    one_more = ap (λ j. take j w) (add-one i) ∙ take-suc w i 0 lt ∙ ap (λ x. take i w ++ (x ∷ [])) (sym here)

    -- the digits with this one behind them
    more_digits : (10 * v + (b - digit 0) ≡ 0 → ⊥) → decimal (10 * v + (b - digit 0)) ≡ take (i + 1) w
    more_digits ne = go (ltb 0 v) refl
      where
        last : digit (b - digit 0) ≡ b
        last = omega arith

        go : (t : Bool) → ltb 0 v ≡ t → decimal (10 * v + (b - digit 0)) ≡ take (i + 1) w
        go true t =
            let pos = ltb-true 0 v t in
            decimal-more v (b - digit 0) pos (omega arith) ∙ ap₂ (λ ds x. ds ++ (x ∷ [])) (p.digits pos) last ∙ sym one_more
        go false t =
            let zero-v : v ≡ 0 = omega (arith, ltb-false 0 v t) in
            let alone : 10 * v + (b - digit 0) ≡ b - digit 0 = omega arith in
            ap decimal alone
            ∙ decimal-one (b - digit 0) (omega arith)
            ∙ ap₂ (λ j x. take j w ++ (x ∷ [])) (sym (none_before zero-v)) last
            ∙ sym one_more

    pub one_passed : (10 * v + (b - digit 0) ≡ 0 → ⊥) → Passed w (i + 1) (10 * v + (b - digit 0))
    one_passed ne = record {
      some = λ _. omega arith;
      digits = λ _. more_digits ne;
      small = omega (arith, p.small, ap (λ j. 10 ^ j) (add-one i), pow-suc 10 i);
    }

  -- All digits are passed.
  pub all_passed : i ≡ length w → NumberOf w v
  all_passed e = record {
    number_is = λ pos. p.digits pos ∙ ap (λ j. take j w) e ∙ take-length w;
    number-none = λ z n some few q. omega (arith, none_before z, decimal-some n, ap length q);
  }
