-- The labels of an entry, tested at their places. Assumes nothing.
use Prim.Native.Nat.{ℕ, zero, suc, ◌+◌, ◌≤◌}
use native.Mathlib.Numerals.{add-one}
use native.Mathlib.Omega.{arith}
use mathlib.Core.Path.{◌≡◌, refl, sym, ◌∙◌, ap}
use mathlib.Core.Bool.{Bool, ◌&&◌}
use mathlib.Core.List.{List}
use lib.ListN.{length, get_or, take, drop}
use lib.Seq.{drop-cons}
use Rattle.std.specs.List.{list_all, range_with_len}
use Rattle.paper.specs.Lists.{all}

-- what a test says of the elements from place i on, it says of them by their places
pub all_places : (p : ℕ → Bool) (l : List ℕ) (n i : ℕ) → i + n ≤ length l → list_all (λ k. p (get_or l k 0)) (range_with_len i n) ≡ all p (take n (drop i l))
all_places p l zero i le = refl
all_places p l (suc n) i le =
    ap (λ b. p (get_or l i 0) && b) (all_places p l n (i + 1) (omega arith) ∙ ap (λ m. all p (take n (drop m l))) (add-one i))
    ∙ sym (ap (λ d. all p (take (suc n) d)) (drop-cons l i 0 (omega arith)))
