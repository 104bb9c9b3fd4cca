-- The label of a part, by its name or by its number. Assumes nothing.
use Prim.Native.Nat.{ℕ, ◌-◌, ◌≤◌, ◌<◌}
use native.Mathlib.Omega.{arith}
use mathlib.Core.Path.{◌≡◌, refl, sym, ◌∙◌}
use mathlib.Core.Bool.{Bool, true, false}
use mathlib.Core.List.{List}
use lib.Dec.{ltb}
use borrow.Author.Tests.{ltb-true, ltb-false}
use Rattle.paper.specs.Lists.{between}
use Rattle.paper.specs.Format.{Format}
use Rattle.paper.proofs.Lists.{within}
use Rattle.grammar.specs.Names.{named, name_text}
use Rattle.grammar.specs.Reader.{label_of}
use Rattle.grammar.proofs.Decimals.{decimal_apart, decimal_short}
use Rattle.grammar.proofs.LabelNames.{in_range, name_apart, label_is, label_none, label_right}
use Rattle.names.specs.Word.{NamedBy, NumberOf}
use Rattle.names.proofs.Naming.{has_name, no_name_above}

-- A label that has a name prints as it, and one above those as its number.
pub by_its_name : {w : List ℕ} {r : ℕ} → NamedBy w r → 0 < r → name_text r ≡ w
by_its_name {w} {r} n some = sym (has_name r (r - 1) (omega arith) n.few) ∙ n.name_is some

pub by_its_number : {w : List ℕ} {r : ℕ} → NumberOf w r → named < r → name_text r ≡ w
by_its_number {w} {r} n above = sym (no_name_above r above) ∙ n.number_is (omega arith)

module _ (f : Format) (w : List ℕ) where
  -- The label that prints as the part is the part's, if the format has it.
  pub is_label : (l : ℕ) → 0 < l → l ≤ f.labels → name_text l ≡ w → l ≡ label_of f w
  is_label l some most e = sym (label_is f l w (in_range 1 l f.labels some most) e)

  pub above_labels : (l : ℕ) → 0 < l → f.labels < l → name_text l ≡ w → 0 ≡ label_of f w
  above_labels l some above e =
      sym
      (label_none f w (λ m r q. let v = within 1 m f.labels r in omega (arith, v.0, v.1, name_apart l m (e ∙ sym q) some v.0)))

  -- A label is a small number.
  pub label_small : {x : ℕ} → x ≡ label_of f w → f.labels < 65536 → x < 65536
  label_small {x} e most = go (ltb 0 (label_of f w)) refl
    where
      go : (b : Bool) → ltb 0 (label_of f w) ≡ b → x < 65536
      go true t = omega (arith, (within 1 (label_of f w) f.labels (label_right f w (ltb-true 0 (label_of f w) t)).0).1)
      go false t = omega (arith, ltb-false 0 (label_of f w) t)

  -- Where the part is none of the names, and a number of theirs or none, no label prints as it.
  pub no_label : (v : ℕ) → f.labels < 65536 → NamedBy w 0 → NumberOf w v → v ≤ named → 0 ≡ label_of f w
  no_label v most n d few = sym (label_none f w none)
    where
      numbered : (m : ℕ) → named < m → m ≤ f.labels → name_text m ≡ w → (b : Bool) → ltb 0 v ≡ b → ⊥
      numbered m lt le q true t = omega (arith, decimal_apart v m (d.number_is (ltb-true 0 v t) ∙ sym q ∙ sym (no_name_above m lt)))
      numbered m lt le q false t =
          d.number-none (omega (arith, ltb-false 0 v t)) m (omega arith) (decimal_short m (omega arith)) (no_name_above m lt ∙ q)

      printed : (m : ℕ) → 1 ≤ m → m ≤ f.labels → name_text m ≡ w → (b : Bool) → ltb named m ≡ b → ⊥
      printed m some le q true t = numbered m (ltb-true named m t) le q (ltb 0 v) refl
      printed m some le q false t =
          let low = ltb-false named m t in
          n.name_none refl (m - 1) (omega arith) (has_name m (m - 1) (omega arith) low ∙ q)

      none : (m : ℕ) → between 1 m f.labels ≡ true → name_text m ≡ w → ⊥
      none m r q = let v = within 1 m f.labels r in printed m v.0 v.1 q (ltb named m) refl
