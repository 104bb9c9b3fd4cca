-- How many labels a listed type has, counted on the way up. Assumes nothing.
use Prim.Native.Nat.{ℕ, ◌+◌, ◌≤◌, ◌<◌}
use native.Mathlib.Omega.{arith}
use mathlib.Core.Path.{◌≡◌, refl, ap}
use mathlib.Core.Logic.{inl}
use mathlib.Core.List.{List, []}
use lib.ListN.{length, get_or}
use Rattle.paper.specs.Lists.{up}
use Rattle.paper.proofs.Lists.{get_d_has}
use Rattle.names.specs.Word.{most_kept}
use Rattle.types.specs.Types.{Told}
use Rattle.typed.specs.Entries.{Sized}
use Rattle.typed.proofs.Upwards.{Stands, stands_root, stands_up, stands_length}

module _ (parents : List ℕ) (count k : ℕ) where
  -- n labels are counted, and those of type q are left
  abbrev pub Counting : ℕ → ℕ → Type 0
  Counting q n = (ts : List (List ℕ)) (labels : List ℕ) → Told ts parents labels count
      → (v : List ℕ) × Stands ts count q v × (n + length v ≡ length (get_or ts k []))

  pub counting_start : k < count → Counting k 0
  counting_start lt ts labels told = (get_or ts k [], inl (lt, refl), omega arith)

  module _ (q n : ℕ) (c : Counting q n) where
    pub counting_up : q < count → Counting (get_or parents q 0) (n + 1)
    counting_up lt ts labels told =
        let (v, s, e) = c ts labels told in
        let long = stands_length ts parents labels count told q v s lt in
        (up v, stands_up ts parents labels count told q v s lt, omega (arith, long, e))

    pub counting_end : count ≤ q → Sized parents count k n
    counting_end le ts labels listed =
        let (v, s, e) = c ts labels listed.told in
        omega (arith, e, ap length (stands_root ts parents labels count listed.told q v s le))

    -- no type has more labels
    pub counting_most : k < count → most_kept ≤ n → Sized parents count k n
    counting_most lt le ts labels listed =
        let (v, s, e) = c ts labels listed.told in
        omega (arith, e, listed.short (get_or ts k []) (get_d_has [] ts k (omega (arith, listed.told.count-is))))
