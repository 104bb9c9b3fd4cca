-- The walk back for the first row at which a list is wrong. Assumes nothing.
use Prim.Native.Nat.{ℕ, ◌-◌, ◌≤◌, ◌<◌, min}
use native.Mathlib.Omega.{arith}
use mathlib.Core.Path.{◌≡◌, sym, subst}
use mathlib.Core.Logic.{⊎_elim}
use mathlib.Core.List.{List}
use lib.ListN.{get_or}
use Rattle.std.specs.Prelude.{Option, None, Some}
use Rattle.std.proofs.lemmas.Option.{none-some, same_Some}
use Rattle.types.proofs.Step.{below}
use Rattle.indexes.specs.Wrong.{WrongFrom, FirstWrong, earlier}

module _ (rows : ℕ) (Right : ℕ → ℕ → Type 0) (list : List ℕ) where
  pub wrong_start : WrongFrom rows Right list rows None
  wrong_start = λ j le lt. let z : ⊥ = omega arith in absurd z

  -- v is right at the row before row m
  module _ (m v : ℕ) (pos : 0 < m) (is : Right (m - 1) v) where
    own : get_or list (m - 1) 0 ≡ v → (j : ℕ) → j ≡ m - 1 → Right j (get_or list j 0)
    own e j q = subst (λ j. Right j (get_or list j 0)) (sym q) (subst (Right (m - 1)) (sym e) is)

    one_more : get_or list (m - 1) 0 ≡ v → (n : ℕ) → ((j : ℕ) → m ≤ j → j < n → Right j (get_or list j 0))
        → (j : ℕ) → m - 1 ≤ j → j < n → Right j (get_or list j 0)
    one_more e n so_far j le lt = ⊎_elim (λ a. so_far j (omega arith) lt) (λ q. own e j (sym q)) (below (m - 1) j (omega arith))

    pub wrong_not : (w : Option ℕ) → WrongFrom rows Right list m w → get_or list (m - 1) 0 ≡ v → WrongFrom rows Right list (m - 1) w
    wrong_not None so_far e = one_more e rows so_far
    wrong_not (Some w) so_far e = record {
      after = omega (arith, so_far.after);
      within = so_far.within;
      right = one_more e w so_far.right;
      wrong = so_far.wrong;
    }

    pub wrong_here : m - 1 < rows → (get_or list (m - 1) 0 ≡ v → ⊥) → WrongFrom rows Right list (m - 1) (Some (m - 1))
    wrong_here lt ne = record {
      after = omega arith;
      within = lt;
      right = λ j le l. let z : ⊥ = omega arith in absurd z;
      wrong = (v, is, ne);
    }

-- ---- of two lists
-- the row, the number of rows for none
abbrev pub row_or : ℕ → Option ℕ → ℕ
row_or rows None = rows
row_or rows (Some w) = w

module _ (rows : ℕ) (R : ℕ → ℕ → Type 0) (l : List ℕ) where
  pub right_before : (a : Option ℕ) → FirstWrong rows R l a → (j : ℕ) → j < row_or rows a → R j (get_or l j 0)
  right_before None f j lt = f j (omega arith) lt
  right_before (Some w) f j lt = f.right j (omega arith) lt

  pub row_within : (a : Option ℕ) → FirstWrong rows R l a → row_or rows a ≤ rows
  row_within None f = omega arith
  row_within (Some w) f = omega (arith, f.within)

  pub wrong_there : (a : Option ℕ) → FirstWrong rows R l a → row_or rows a < rows
      → (p : ℕ) × R (row_or rows a) p × (get_or l (row_or rows a) 0 ≡ p → ⊥)
  wrong_there None f lt = let z : ⊥ = omega arith in absurd z
  wrong_there (Some w) f lt = f.wrong

module _ (rows : ℕ) (R S : ℕ → ℕ → Type 0) (l m : List ℕ) where
  pub earlier_at : (a b : Option ℕ) → FirstWrong rows R l a → FirstWrong rows S m b → (w : ℕ) → Some w ≡ earlier a b
      → (w ≡ min (row_or rows a) (row_or rows b)) × (w < rows)
  earlier_at None None f g w e = absurd (none-some w (sym e))
  earlier_at None (Some j) f g w e = let q = same_Some w j e in (omega (arith, q, g.within), omega (arith, q, g.within))
  earlier_at (Some i) None f g w e = let q = same_Some w i e in (omega (arith, q, f.within), omega (arith, q, f.within))
  earlier_at (Some i) (Some j) f g w e = let q = same_Some w (min i j) e in (q, omega (arith, q, f.within))

  pub earlier_none : (a b : Option ℕ) → FirstWrong rows R l a → FirstWrong rows S m b → None ≡ earlier a b → rows ≤ min (row_or rows a) (row_or rows b)
  earlier_none None None f g e = omega arith
  earlier_none None (Some j) f g e = absurd (none-some j e)
  earlier_none (Some i) None f g e = absurd (none-some i e)
  earlier_none (Some i) (Some j) f g e = absurd (none-some (min i j) e)
