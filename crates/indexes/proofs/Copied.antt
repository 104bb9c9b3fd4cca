-- The label list of a row, copied from the row before it. Assumes nothing.
use Prim.Native.Nat.{ℕ, zero, suc, ◌+◌, ◌*◌, ◌-◌, ◌≤◌, ◌<◌}
use native.Mathlib.Omega.{arith}
use mathlib.Core.Path.{◌≡◌, refl, ◌∙◌, ap}
use mathlib.Core.List.{List}
use lib.ListN.{length, get_or, set}
use lib.Seq.{get_or-set_same, get_or-set_other}
use Rattle.octets.specs.Served.{most_levels}
use Rattle.indexes.specs.Labels.{label_of, Put}

-- a row below level 1 is not the first
pub not_first : (i l : ℕ) → (i ≡ 0 → l ≤ 1) → 1 < l → 0 < i
not_first zero l top lt = let z : ⊥ = omega (arith, top refl) in absurd z
not_first (suc i) l top lt = omega arith

-- the labels above level l are copied, and then its own is put behind them
pub put_copied : (i l a : ℕ) (old mid : List ℕ) → 1 ≤ l → l ≤ most_levels → most_levels * (i + 1) ≤ length mid
    → ((m : ℕ) → m + 1 < l → label_of mid i m ≡ label_of old (i - 1) m) → ((p : ℕ) → p < most_levels * i → get_or mid p 0 ≡ get_or old p 0)
    → Put i l a old (set mid (8 * i + l - 1) a)
put_copied i l a old mid some deep room copied before = record {
  copied = λ m lt. other (most_levels * i + m) (λ e. omega arith) ∙ copied m lt;
  own = let p : most_levels * i + (l - 1) ≡ at = omega arith in ap (λ x. get_or (set mid at a) x 0) p ∙ get_or-set_same mid at a 0 (omega arith);
  before = λ p lt. other p (λ e. omega arith) ∙ before p lt;
}
  where
    at : ℕ
    at = 8 * i + l - 1

    other : (p : ℕ) → (p ≡ at → ⊥) → get_or (set mid at a) p 0 ≡ get_or mid p 0
    other p ne = get_or-set_other mid at p a 0 ne
