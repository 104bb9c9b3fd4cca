-- A name and a listed type, compared label by label on the way up. Assumes nothing.
use Prim.Native.Nat.{ℕ, suc, ◌-◌, ◌≤◌, ◌<◌}
use native.Mathlib.Omega.{arith}
use mathlib.Core.Path.{◌≡◌, refl, sym, ◌∙◌, ap, ap₂}
use mathlib.Core.Logic.{inl, ⊎_elim}
use mathlib.Core.Bool.{Bool, true, false}
use mathlib.Core.List.{List, [], ◌∷◌, ◌++◌}
use lib.Dec.{leb}
use lib.ListN.{length, get_or, take}
use lib.Seq.{take-suc, length-take-le}
use borrow.Author.Tests.{le-leb, lt-leb}
use Rattle.paper.specs.Lists.{same, up}
use Rattle.grammar.specs.Typed.{matches}
use Rattle.types.specs.Types.{Told}
use Rattle.typed.specs.Matching.{Ends}
use Rattle.typed.proofs.Upwards.{Stands, stands_root, stands_split, stands_up, stands_length}
use Rattle.typed.proofs.Suffix.{name_with, unequal, matches-more, matches-not, matches_short, matches_end, matches-whole}

module _ (parents labels : List ℕ) (count : ℕ) (name : List ℕ) (size : ℕ) (whole : Bool) (k : ℕ) where
  -- Type q and the first j labels of the name are still to be compared.
  abbrev pub Comparing : ℕ → ℕ → Type 0
  Comparing q j = (ts : List (List ℕ)) → Told ts parents labels count
      → (v : List ℕ) × Stands ts count q v × (matches (name_with whole (take j name)) v ≡ matches (name_with whole (take size name)) (get_or ts k []))

  abbrev Answer : Bool → Type 0
  Answer r = Ends parents labels count (name_with whole (take size name)) k r

  pub comparing_start : k < count → Comparing k size
  comparing_start lt ts told = (get_or ts k [], inl (lt, refl), refl)

  module _ (q j : ℕ) (c : Comparing q j) where
    module _ (pos : 0 < j) (fits : j ≤ length name) where
      -- the name ends with its label j - 1
      name_split : take j name ≡ take (j - 1) name ++ (get_or name (j - 1) 0 ∷ [])
      name_split = let e : j ≡ suc (j - 1) = omega arith in ap (λ n. take n name) e ∙ take-suc name (j - 1) 0 (omega arith)

      -- the type has no label left
      pub comparing_short : count ≤ q → Answer false
      comparing_short le ts told =
          let (v, s, e) = c ts told in
          let none = stands_root ts parents labels count told q v s le in
          sym (matches_short whole (take j name) v (omega (arith, ap length none, length-take-le j name fits))) ∙ e

      module _ (lt : q < count) where
        -- the labels differ
        pub comparing_not : (get_or labels q 0 ≡ get_or name (j - 1) 0 → ⊥) → Answer false
        comparing_not ne ts told =
            let (v, s, e) = c ts told in
            let split = stands_split ts parents labels count told q v s lt in
            sym (matches-not whole (take (j - 1) name) (up v) (get_or name (j - 1) 0) (get_or labels q 0) (λ h. ne (sym h)))
            ∙ sym (ap₂ (λ ns u. matches (name_with whole ns) u) name_split split)
            ∙ e

        -- the labels are equal
        pub comparing_up : get_or labels q 0 ≡ get_or name (j - 1) 0 → Comparing (get_or parents q 0) (j - 1)
        comparing_up same ts told =
            let (v, s, e) = c ts told in
            let split = stands_split ts parents labels count told q v s lt in (
              up v,
              stands_up ts parents labels count told q v s lt,
              sym (matches-more whole (take (j - 1) name) (up v) (get_or name (j - 1) 0) (get_or labels q 0) (sym same))
                  ∙ sym (ap₂ (λ ns u. matches (name_with whole ns) u) name_split split)
                  ∙ e,
            )

    -- no label of the name is left
    module _ (done : j ≡ 0) where
      pub comparing_end : whole ≡ false → Answer true
      comparing_end part ts told =
          let (v, s, e) = c ts told in
          sym (ap₂ (λ w i. matches (name_with w (take i name)) v) part done ∙ matches_end v) ∙ e

      pub comparing_whole : whole ≡ true → Answer (leb count q)
      comparing_whole all ts told =
          let (v, s, e) = c ts told in
          rest ts told v s ∙ sym (ap₂ (λ w i. matches (name_with w (take i name)) v) all done ∙ matches-whole v) ∙ e
        where
          rest : (ts : List (List ℕ)) → Told ts parents labels count → (v : List ℕ) → Stands ts count q v → leb count q ≡ same [] v
          rest ts told v s =
              ⊎_elim (λ t. lt-leb count q t.0 ∙ sym (unequal [] v (λ e. omega (arith, ap length e, stands_length ts parents labels count told q v s t.0))))
              (λ t. le-leb count q t.0 ∙ sym (ap (same []) t.1)) s
