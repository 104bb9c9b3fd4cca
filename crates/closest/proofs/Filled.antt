-- Arrays that are filled one place after the other. Assumes nothing.
use Prim.Native.Nat.{ℕ, ◌+◌, ◌<◌}
use native.Mathlib.Nat.{not-suc-le-zero}
use native.Mathlib.Omega.{arith}
use mathlib.Core.Path.{◌≡◌, ◌∙◌}
use mathlib.Core.List.{List}
use lib.ListN.{length, get_or, set, length-set}
use lib.Seq.{get_or-set_same, get_or-set_other}
use borrow.Author.Count.{below_more}

-- the first i of so many places hold what g says
pub record Filled {A : Type 0} (g : ℕ → A) (d : A) (size i : ℕ) (xs : List A) : Type 0 where
  pub long : length xs ≡ size
  pub at : (e : ℕ) → e < i → get_or xs e d ≡ g e

module _ {A : Type 0} (g : ℕ → A) (d : A) (size : ℕ) where
  pub filled_none : (xs : List A) → length xs ≡ size → Filled g d size 0 xs
  filled_none xs l = record { long = l; at = λ e lt. absurd (not-suc-le-zero lt) }

  pub filled_more : (i : ℕ) (xs : List A) (x : A) → i < size → Filled g d size i xs → x ≡ g i → Filled g d size (i + 1) (set xs i x)
  filled_more i xs x lt f q = record {
    long = length-set xs i x ∙ f.long;
    at = below_more (λ e. get_or (set xs i x) e d ≡ g e) i (λ e le. get_or-set_other xs i e x d (λ z. omega arith) ∙ f.at e le)
        (get_or-set_same xs i x d (omega (arith, f.long)) ∙ q);
  }
