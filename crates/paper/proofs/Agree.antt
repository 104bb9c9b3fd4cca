-- Agreement of two Dewey numbers on their first k components: all that the proofs use of the meeting level. Assumes nothing.
use Prim.Native.Nat.{ℕ, zero, suc, ◌≤◌, zero-le, suc-le-suc}
use native.Mathlib.Nat.{not-suc-le-zero, le_of_suc-le-suc, le_refl, le_antisymm}
use native.Mathlib.Omega.{arith}
use mathlib.Core.Path.{◌≡◌, refl, sym, ◌∙◌, ap, ap₂}
use mathlib.Core.Bool.{Bool, true, false}
use mathlib.Core.List.{List, [], ◌∷◌, ◌++◌}
use lib.Dec.{eqb}
use lib.ListN.{length, take, drop, take-append-drop}
use lib.Seq.{take-length}
use borrow.Author.Tests.{eqb-true, eq-eqb}
use Rattle.paper.specs.Closeness.{shared}

abbrev pub Agree : ℕ → List ℕ → List ℕ → Type 0
Agree zero a b = Unit
Agree (suc k) [] b = ⊥
Agree (suc k) (x ∷ a) [] = ⊥
Agree (suc k) (x ∷ a) (y ∷ b) = (x ≡ y) × Agree k a b

pub agree_sym : (k : ℕ) (a b : List ℕ) → Agree k a b → Agree k b a
agree_sym zero a b h = tt
agree_sym (suc k) [] b h = absurd h
agree_sym (suc k) (x ∷ a) [] h = absurd h
agree_sym (suc k) (x ∷ a) (y ∷ b) h = (sym h.0, agree_sym k a b h.1)

pub agree_trans : (k : ℕ) (a b c : List ℕ) → Agree k a b → Agree k b c → Agree k a c
agree_trans zero a b c h i = tt
agree_trans (suc k) [] b c h i = absurd h
agree_trans (suc k) (x ∷ a) [] c h i = absurd h
agree_trans (suc k) (x ∷ a) (y ∷ b) [] h i = absurd i
agree_trans (suc k) (x ∷ a) (y ∷ b) (z ∷ c) h i = (h.0 ∙ i.0, agree_trans k a b c h.1 i.1)

pub agree_le : (k l : ℕ) (a b : List ℕ) → l ≤ k → Agree k a b → Agree l a b
agree_le k zero a b le h = tt
agree_le zero (suc l) a b le h = absurd (not-suc-le-zero le)
agree_le (suc k) (suc l) [] b le h = absurd h
agree_le (suc k) (suc l) (x ∷ a) [] le h = absurd h
agree_le (suc k) (suc l) (x ∷ a) (y ∷ b) le h = (h.0, agree_le k l a b (le_of_suc-le-suc le) h.1)

pub agree_self : (a : List ℕ) → Agree (length a) a a
agree_self [] = tt
agree_self (x ∷ a) = (refl, agree_self a)

pub agree_length : (k : ℕ) (a b : List ℕ) → Agree k a b → k ≤ length a
agree_length zero a b h = omega arith
agree_length (suc k) [] b h = absurd h
agree_length (suc k) (x ∷ a) [] h = absurd h
agree_length (suc k) (x ∷ a) (y ∷ b) h = omega (arith, agree_length k a b h.1)

-- ---- agreement and cutting
pub agree_take : (k : ℕ) (a b : List ℕ) → Agree k a b → take k a ≡ take k b
agree_take zero a b h = refl
agree_take (suc k) [] b h = absurd h
agree_take (suc k) (x ∷ a) [] h = absurd h
agree_take (suc k) (x ∷ a) (y ∷ b) h = ap₂ {C = List ℕ} (λ u v. u ∷ v) h.0 (agree_take k a b h.1)

pub take_agree : (k : ℕ) (a b : List ℕ) → k ≤ length a → take k a ≡ take k b → k ≤ length b → Agree k a b
take_agree zero a b le e le' = tt
take_agree (suc k) [] b le e le' = absurd (not-suc-le-zero le)
take_agree (suc k) (x ∷ a) [] le e le' = absurd (not-suc-le-zero le')
take_agree (suc k) (x ∷ a) (y ∷ b) le e le' =
    (cc, take_agree k a b (le_of_suc-le-suc le) (cc) (le_of_suc-le-suc le'))

pub agree_front : (w a b : List ℕ) → Agree (length w) (w ++ a) (w ++ b)
agree_front [] a b = tt
agree_front (x ∷ w) a b = (refl, agree_front w a b)

-- ---- agreement and the meeting level
pub shared→agree : (k : ℕ) (a b : List ℕ) → k ≤ shared a b → Agree k a b
shared→agree zero a b h = tt
shared→agree (suc k) [] b h = absurd (not-suc-le-zero h)
shared→agree (suc k) (x ∷ a) [] h = absurd (not-suc-le-zero h)
shared→agree (suc k) (x ∷ a) (y ∷ b) h = go (eqb x y) refl (shared→agree k a b) h
  where
    go : (t : Bool) → eqb x y ≡ t → (k ≤ shared a b → Agree k a b) → suc k ≤ elim t [ true ↦ suc (shared a b) | false ↦ 0 ]
        → (x ≡ y) × Agree k a b
    go true e ih i = (eqb-true x y e, ih (le_of_suc-le-suc i))
    go false e ih i = absurd (not-suc-le-zero i)

pub agree→shared : (k : ℕ) (a b : List ℕ) → Agree k a b → k ≤ shared a b
agree→shared zero a b h = zero-le
agree→shared (suc k) [] b h = absurd h
agree→shared (suc k) (x ∷ a) [] h = absurd h
agree→shared (suc k) (x ∷ a) (y ∷ b) h = rw (eq-eqb x y h.0, shared) (suc-le-suc (agree→shared k a b h.1))

pub shared_agree : (a b : List ℕ) → Agree (shared a b) a b
shared_agree a b = shared→agree (shared a b) a b (le_refl (shared a b))

pub shared-sym : (a b : List ℕ) → shared a b ≡ shared b a
shared-sym a b = le_antisymm (le a b) (le b a)
  where
    le : (a b : List ℕ) → shared a b ≤ shared b a
    le a b = agree→shared (shared a b) b a (agree_sym (shared a b) a b (shared_agree a b))

pub shared-length : (a b : List ℕ) → shared a b ≤ length a
shared-length a b = agree_length (shared a b) a b (shared_agree a b)

-- numbers of one length that meet at it are equal
pub shared_eq : (a b : List ℕ) → length a ≡ length b → Agree (length a) a b → a ≡ b
shared_eq a b e h = sym (take-length a) ∙ agree_take (length a) a b h ∙ ap (λ n. take n b) e ∙ take-length b

-- what two lists share is not passed on both sides at once: below it they differ, unless they are equal
pub drops_differ : (a b : List ℕ) → (a ≡ b → ⊥) → drop (shared a b) a ≡ drop (shared a b) b → ⊥
drops_differ a b no_eq q =
    no_eq (sym (take-append-drop (shared a b) a) ∙ ap₂ (λ u v. u ++ v) (agree_take (shared a b) a b (shared_agree a b)) q ∙ take-append-drop (shared a b) b)
