-- A search among the listed types: none of the first k has this parent and label. Assumes nothing.
use Prim.Native.Nat.{ℕ, ◌+◌, ◌≤◌, ◌<◌}
use native.Mathlib.Omega.{arith}
use mathlib.Core.Path.{◌≡◌, subst}
use mathlib.Core.Logic.{⊎_elim}
use mathlib.Core.List.{List}
use lib.ListN.{get_or}
use Rattle.types.proofs.Step.{below}

abbrev pub Missed : List ℕ → List ℕ → ℕ → ℕ → ℕ → Type 0
Missed parents labels p a k = (j : ℕ) → j < k → get_or parents j 0 ≡ p → get_or labels j 0 ≡ a → ⊥

pub missed_more : (parents labels : List ℕ) (p a k : ℕ) → Missed parents labels p a k → (get_or parents k 0 ≡ p → get_or labels k 0 ≡ a → ⊥)
    → Missed parents labels p a (k + 1)
missed_more parents labels p a k m here j lt =
    ⊎_elim (λ l. m j l) (λ e x y. here (subst (λ n. get_or parents n 0 ≡ p) e x) (subst (λ n. get_or labels n 0 ≡ a) e y)) (below j k lt)

pub missed_all : (parents labels : List ℕ) (p a k n : ℕ) → n ≤ k → Missed parents labels p a k → Missed parents labels p a n
missed_all parents labels p a k n le m j lt = m j (omega arith)
