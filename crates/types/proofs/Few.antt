-- A table with no type too many. Assumes nothing.
use Prim.Native.Nat.{ℕ, ◌≤◌}
use native.Mathlib.Omega.{arith}
use mathlib.Core.Path.{◌≡◌, refl, sym, ◌∙◌}
use mathlib.Core.Bool.{Bool, true, false}
use mathlib.Core.List.{List, []}
use mathlib.Core.Option.{none, some}
use lib.Dec.{ltb}
use lib.ListN.{length, get_or}
use borrow.Author.Tests.{ltb-false}
use Rattle.paper.specs.Lists.{place, same}
use Rattle.paper.specs.Format.{most_types}
use Rattle.paper.specs.Tables.{Row, row_types, types}
use Rattle.paper.specs.Calls.{type_too_many}

-- it has at most 64 types
pub few_from : (rs : List Row) → type_too_many rs ≡ none → length (types rs) ≤ most_types
unfolding type_too_many
few_from rs e = go (ltb most_types (length (types rs))) refl
  where
    go : (b : Bool) → ltb most_types (length (types rs)) ≡ b → length (types rs) ≤ most_types
    go true q =
        let p = place (same (get_or (types rs) most_types [])) (row_types rs) in
        let a : type_too_many rs ≡ some p = rw (q, type_too_many) refl in
        let c : some p ≡ none = sym a ∙ e in
        let z : ◌≡◌ {A = ℕ} 0 1 = cc in let w : ⊥ = omega arith in absurd w
    go false q = ltb-false most_types (length (types rs)) q
