-- Places of a list filled one after the other. Assumes nothing.
use Prim.Native.Nat.{ℕ, ◌+◌, ◌≤◌, ◌<◌}
use native.Mathlib.Omega.{arith}
use mathlib.Core.Path.{◌≡◌, sym, ◌∙◌, subst}
use mathlib.Core.Logic.{⊎_elim}
use mathlib.Core.List.{List}
use lib.ListN.{length, get_or, set, length-set}
use lib.Seq.{get_or-set_same, get_or-set_other}
use Rattle.types.proofs.Step.{below}

-- the first i of so many places have what is right there, and what lies past all of them is as it was
pub record Placing (Right : ℕ → ℕ → Type 0) (n : ℕ) (old new : List ℕ) (i : ℕ) : Type 0 where
  pub long : length new ≡ length old
  pub within : i ≤ n
  pub right : (j : ℕ) → j < i → Right j (get_or new j 0)
  pub rest : (j : ℕ) → n ≤ j → get_or new j 0 ≡ get_or old j 0

pub placing_step : {Right : ℕ → ℕ → Type 0} {n : ℕ} {old new : List ℕ} {i v : ℕ} → Placing Right n old new i → i < n → n ≤ length old → Right i v
    → Placing Right n old (set new i v) (i + 1)
placing_step {Right} {n} {old} {new} {i} {v} so_far lt room is = record {
  long = length-set new i v ∙ so_far.long;
  within = omega arith;
  right = λ j b. ⊎_elim (λ c. subst (Right j) (sym (get_or-set_other new i j v 0 (λ e. omega arith))) (so_far.right j c))
      (λ e. subst (λ j. Right j (get_or (set new i v) j 0)) (sym e) (subst (Right i) (sym (get_or-set_same new i v 0 (omega (arith, so_far.long)))) is)) (below j i b);
  rest = λ j le. get_or-set_other new i j v 0 (λ e. omega arith) ∙ so_far.rest j le;
}
