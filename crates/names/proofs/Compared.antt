-- A part compared with a name that is held. Assumes nothing.
use Prim.Native.Nat.{ℕ, ◌<◌}
use native.Mathlib.Omega.{arith}
use mathlib.Core.Path.{◌≡◌, refl, sym, ◌∙◌, ap, subst}
use mathlib.Core.Bool.{Bool, true, false, false≢true}
use mathlib.Core.List.{List}
use lib.Dec.{eqb}
use lib.ListN.{length, get_or, take}
use lib.Seq.{ext_get_or, get_or-take}
use Rattle.std.specs.Bool.{Decides}
use Rattle.std.specs.Cmp.Lexicographic.{pointwise}
use Rattle.std.proofs.lemmas.Bool.Decides.{Decides-eqb}
use Rattle.std.proofs.lemmas.Slice.Eq.{slice_eq-Decides}
use Rattle.paper.specs.Lists.{same}
use Rattle.paper.proofs.Lists.{same_eq, eq_same}

-- They are not equal.
pub not_same : (a b : List ℕ) → (a ≡ b → ⊥) → false ≡ same a b
not_same a b ne = go (same a b) (λ e. ne (same_eq a b e))
  where
    go : (t : Bool) → (t ≡ true → ⊥) → false ≡ t
    go false n = refl
    go true n = absurd (n refl)

-- The list a is what the list held begins with.
module _ (a b held : List ℕ) (begins : take (length a) held ≡ a) where
  -- a and held have the same at each place of a
  at_place_lem : (i : ℕ) → i < length a → get_or held i 0 ≡ get_or a i 0
  at_place_lem i lt = sym (get_or-take (length a) held i 0 lt) ∙ ap (λ l. get_or l i 0) begins

  -- Where b differs from held within a, it is not a.
  pub differs : (i : ℕ) → i < length a → (get_or b i 0 ≡ get_or held i 0 → ⊥) → false ≡ same a b
  differs i lt ne = not_same a b (λ e. ne (ap (λ l. get_or l i 0) (sym e) ∙ sym (at_place_lem i lt)))

  -- Where it nowhere differs, it is.
  pub agrees : length b ≡ length a → ((i : ℕ) → i < length a → get_or b i 0 ≡ get_or held i 0) → true ≡ same a b
  agrees long all = sym (eq_same (sym (ext_get_or 0 b a long (λ i lt. all i (long_lt i lt) ∙ at_place_lem i (long_lt i lt)))))
    where
      long_lt : (i : ℕ) → i < length b → i < length a
      long_lt i lt = omega arith

-- What a comparison answers says whether they are equal.
decided : (a b : List ℕ) (t : Bool) → Decides t (b ≡ a) → t ≡ same a b
decided a b true d = sym (eq_same (sym (d.0 refl)))
decided a b false d = not_same a b (λ e. false≢true (d.1 (sym e)))

-- What is held is the name a, and b is compared with it.
pub compared : (a b held : List ℕ) (t : Bool) → held ≡ a → t ≡ pointwise eqb b held → t ≡ same a b
compared a b held t is e = decided a b t (subst (λ l. Decides t (b ≡ l)) is (slice_eq-Decides Decides-eqb b held t e))
