-- Values of rows added up one after the other. Assumes nothing.
use Prim.Native.Nat.{ℕ, suc, ◌+◌, ◌*◌, ◌≤◌, ◌<◌}
use native.Mathlib.Nat.{mul-le-mul_right, add-mul}
use native.Mathlib.Numerals.{add-one}
use native.Mathlib.Omega.{arith}
use mathlib.Core.Path.{◌≡◌, sym, ◌∙◌, ap, subst}
use mathlib.Core.Bool.{Bool, true, false}
use mathlib.Core.List.{List, ◌∷◌}
use lib.IntN.{ℤ, pos, nat_abs, ◌+ℤ◌}
use lib.ListN.{length, get_or, drop}
use lib.Seq.{drop-cons}
use mir.Syntax.{w64}
use mir.Val.{SFits, to_z, of_z}
use mir.Facts.{to_z-of_z}
use Rattle.paper.specs.Lists.{Has}
use Rattle.paper.specs.Format.{most_rows}
use Rattle.paper.specs.Calls.{Reply}
use Rattle.totals.specs.Sums.{within}
use Rattle.totals.specs.Tape.{most_value, Sums, no_sums}
use Rattle.totals.specs.Rows.{RowsOf, added_up}
use Rattle.totals.proofs.Lists.{get_d_has}
use Rattle.totals.proofs.Integers.{within_le, size_sum, sfits}

-- a number of size m more, k times
small-more : (m k : ℕ) (a v : ℤ) → nat_abs a ≤ k * m → nat_abs v ≤ m → nat_abs (a +ℤ v) ≤ (k + 1) * m
small-more m k a v h g = omega (arith, size_sum a v, h, g, add-mul k 1 m)

small-later : (m k : ℕ) (a : ℤ) → nat_abs a ≤ k * m → nat_abs a ≤ (k + 1) * m
small-later m k a h = omega (arith, h, add-mul k 1 m)

-- what a test of the value says, as 64 bits hold it
pub tested : (v : ℤ) (lies t : Bool) → SFits w64 v → lies ≡ within most_value (to_z w64 (of_z w64 v)) → lies ≡ t → within most_value v ≡ t
tested v lies t f e h = ap (within most_value) (sym (to_z-of_z {w = w64} f)) ∙ sym e ∙ h

-- row k of those that are added up, i, is a row of the table
pub record RowAt (w : ℕ) (b is : List ℕ) (k i : ℕ) : Type 0 where
  pub here : k < length is
  pub same : i ≡ get_or is k 0
  pub few : i < most_rows
  pub inside : w * i + w ≤ length b

pub row_at : (w : ℕ) (b is : List ℕ) (k i : ℕ) → RowsOf w b is → k < length is → i ≡ get_or is k 0 → RowAt w b is k i
row_at w b is k i h here same =
    let row = h i (subst (λ (j : ℕ). Has j is) (sym same) (get_d_has 0 is k here)) in
    record { here = here; same = same; few = row.0; inside = row.1 }

module _ (value : ℕ → ℤ) (shows : ℕ → Bool) where
  abbrev choose : (i : ℕ) → List ℕ → ℤ → ℤ → Bool → Bool → Reply Sums
  choose i is a b t s =
      elim t [
        | true ↦ elim s [ true ↦ added_up value shows is (a +ℤ value i) b | false ↦ added_up value shows is a (b +ℤ value i) ]
        | false ↦ record { number = 17; place = i; rest = no_sums }
      ]

  -- what the rows from row k on add to both sums is the whole answer, and k values add up to no more than k of the largest
  pub record Adding (is : List ℕ) (k : ℕ) (a b : ℤ) : Type 0 where
    pub whole : added_up value shows (drop k is) a b ≡ added_up value shows is (pos 0) (pos 0)
    pub small : nat_abs a ≤ k * most_value
    pub small-unshown : nat_abs b ≤ k * most_value

module _ {value : ℕ → ℤ} {shows : ℕ → Bool} {is : List ℕ} {k : ℕ} {a b : ℤ} (g : Adding value shows is k a b) where
  -- the row at hand, i, and its value, v
  module _ {w i : ℕ} {t : List ℕ} (r : RowAt w t is k i) (v : ℤ) (of_row_lem : v ≡ value i) where
    chosen : (in_range s : Bool) → within most_value v ≡ in_range → shows i ≡ s
        → choose value shows i (drop (k + 1) is) a b in_range s ≡ added_up value shows is (pos 0) (pos 0)
    chosen in_range s e f =
        (λ j. choose value shows i (drop (add-one k j) is) a b ((sym e ∙ ap (within most_value) of_row_lem) j) (sym f j))
        ∙ ap (λ is'. added_up value shows is' a b) (ap (λ n. n ∷ drop (suc k) is) r.same ∙ sym (drop-cons is k 0 r.here))
        ∙ g.whole

    module _ (e : within most_value v ≡ true) (few : k < most_rows) (f : SFits w64 v) where
      small_value : nat_abs v ≤ most_value
      small_value = within_le most_value v e

      -- so many values fit into 64 bits
      fits : (c : ℤ) → nat_abs c ≤ k * most_value → SFits w64 (c +ℤ v)
      fits c h =
          sfits (c +ℤ v)
          (omega (arith, small-more most_value k c v h small_value, mul-le-mul_right {m = k + 1} {n = most_rows} most_value (omega (arith, few))))

      pub adding_fits : (c : ℤ) → nat_abs c ≤ k * most_value → SFits w64 (c +ℤ to_z w64 (of_z w64 v))
      adding_fits c h = subst (λ z. SFits w64 (c +ℤ z)) (sym (to_z-of_z {w = w64} f)) (fits c h)

      -- the sum, as 64 bits hold it
      held : (c : ℤ) → nat_abs c ≤ k * most_value → to_z w64 (of_z w64 (c +ℤ to_z w64 (of_z w64 v))) ≡ c +ℤ v
      held c h = to_z-of_z {w = w64} (adding_fits c h) ∙ ap (λ z. c +ℤ z) (to_z-of_z {w = w64} f)

      pub adding_shown : shows i ≡ true → Adding value shows is (k + 1) (to_z w64 (of_z w64 (a +ℤ to_z w64 (of_z w64 v)))) b
      adding_shown s = subst (λ z. Adding value shows is (k + 1) z b) (sym (held a g.small)) (record {
        whole = ap (λ z. added_up value shows (drop (k + 1) is) (a +ℤ z) b) of_row_lem ∙ chosen true true e s;
        small = small-more most_value k a v g.small small_value;
        small-unshown = small-later most_value k b g.small-unshown;
      })

      pub adding_unshown : shows i ≡ false → Adding value shows is (k + 1) a (to_z w64 (of_z w64 (b +ℤ to_z w64 (of_z w64 v))))
      adding_unshown s = subst (λ z. Adding value shows is (k + 1) a z) (sym (held b g.small-unshown)) (record {
        whole = ap (λ z. added_up value shows (drop (k + 1) is) a (b +ℤ z)) of_row_lem ∙ chosen true false e s;
        small = small-later most_value k a g.small;
        small-unshown = small-more most_value k b v g.small-unshown small_value;
      })
