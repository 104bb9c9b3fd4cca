-- When one Dewey number follows another, by where the two meet and one component. Assumes nothing.
use Prim.Native.Nat.{ℕ, suc, ◌+◌, ◌-◌, ◌≤◌, ◌<◌}
use native.Mathlib.Numerals.{add-one}
use native.Mathlib.Omega.{arith}
use mathlib.Core.Path.{◌≡◌, refl, sym, ◌∙◌, ap, ap₂}
use mathlib.Core.Logic.{◌⊎◌, inl, inr, ⊎_elim}
use mathlib.Core.Bool.{Bool, true, false}
use mathlib.Core.List.{List, [], ◌∷◌, ◌++◌}
use lib.Dec.{eqb, leb}
use lib.ListN.{length, get_or, take, length-append, length-take}
use lib.Seq.{take-suc, take_all, get_or-append_seam, take-append_seam, take_at, get_or_at}
use borrow.Author.Tests.{eqb-true, eq-eqb, leb-true, leb-false}
use Rattle.paper.specs.Lists.{same}
use Rattle.paper.specs.Format.{Format, byte, words}
use Rattle.paper.specs.Tables.{row_of, dewey, raised, follows}
use Rattle.paper.specs.Closeness.{shared}
use Rattle.paper.proofs.Lists.{either, same_eq, eq_same, or_left, or_right}
use Rattle.paper.proofs.Agree.{Agree, agree_take, shared→agree, agree→shared, take_agree}
use Rattle.paper.proofs.Forest.{length-raised}
use Rattle.paper.proofs.Papers.{same_test}
use Rattle.paper.proofs.Trees.{raised_snoc}
use Rattle.tables.proofs.Laws.{met, dewey-length, dewey-at}

-- the two ways to follow
abbrev Child : List ℕ → List ℕ → Type 0
Child p d = d ≡ p ++ (1 ∷ [])

abbrev Next : List ℕ → List ℕ → Type 0
Next p d = d ≡ raised (take (length d) p)

ways : (p d : List ℕ) → follows p d ≡ true → Child p d ⊎ Next p d
unfolding follows
ways p d h =
    ⊎_elim (λ a. inl (same_eq d (p ++ (1 ∷ [])) a)) (λ a. inr (same_eq d (raised (take (length d) p)) a))
    (either (same d (p ++ (1 ∷ []))) (same d (raised (take (length d) p))) h)

child_follows : (p d : List ℕ) → Child p d → follows p d ≡ true
unfolding follows
child_follows p d e = or_left (same d (raised (take (length d) p))) (eq_same e)

next_follows : (p d : List ℕ) → Next p d → follows p d ≡ true
unfolding follows
next_follows p d e = or_right (same d (p ++ (1 ∷ []))) (eq_same e)

child_length : (p d : List ℕ) → Child p d → length d ≡ suc (length p)
child_length p d e = omega (arith, ap length e, length-append p (1 ∷ []))

next_length : (p d : List ℕ) → Next p d → length d ≤ length p
next_length p d e = omega (arith, ap length e, length-raised (take (length d) p), length-take (length d) p)

never : (p d : List ℕ) → (Child p d → ⊥) → (Next p d → ⊥) → follows p d ≡ false
never p d no-child no_next = go (follows p d) refl
  where
    go : (b : Bool) → follows p d ≡ b → follows p d ≡ false
    go true e = absurd (⊎_elim no-child no_next (ways p d e))
    go false e = e

-- all components but the last
last_apart : (k : ℕ) (d : List ℕ) → length d ≡ suc k → d ≡ take k d ++ (get_or d k 0 ∷ [])
last_apart k d l = sym (take_all (suc k) d (omega arith)) ∙ take-suc d k 0 (omega arith)

-- ---- longer by one
module _ (p d : List ℕ) (l : length d ≡ suc (length p)) where
  pub child_apart : shared p d < length p → follows p d ≡ false
  child_apart lt = never p d (λ e.
      let a : Agree (length p) p d = take_agree (length p) p d (omega arith) (take_all (length p) p (omega arith) ∙ sym (ap (take (length p)) e ∙ take-append_seam p (1 ∷ []))) (omega arith) in
      omega (arith, agree→shared (length p) p d a)) (λ e. omega (arith, next_length p d e))

  pub child_decides : length p ≤ shared p d → follows p d ≡ eqb (get_or d (length p) 0) 1
  child_decides le = same_test (follows p d) (eqb (get_or d (length p) 0) 1)
      (λ h. ⊎_elim (λ e. eq-eqb (get_or d (length p) 0) 1 (ap (λ z. get_or z (length p) 0) e ∙ get_or-append_seam p 1 [] 0))
      (λ e. let z : ⊥ = omega (arith, next_length p d e) in absurd z) (ways p d h))
      (λ h. child_follows p d (last_apart (length p) d l
      ∙ ap (λ z. z ++ (get_or d (length p) 0 ∷ [])) (sym (agree_take (length p) p d (shared→agree (length p) p d le)) ∙ take_all (length p) p (omega arith))
      ∙ ap (λ x. p ++ (x ∷ [])) (eqb-true (get_or d (length p) 0) 1 h)))

-- ---- longer by more
pub longer_apart : (p d : List ℕ) → suc (length p) < length d → follows p d ≡ false
longer_apart p d lt = never p d (λ e. omega (arith, child_length p d e)) (λ e. omega (arith, next_length p d e))

-- ---- not longer
module _ (p d : List ℕ) (k : ℕ) (l : length d ≡ suc k) (le : suc k ≤ length p) where
  -- the number before, cut to this length and raised
  cut : raised (take (length d) p) ≡ take k p ++ (suc (get_or p k 0) ∷ [])
  cut = ap (λ n. raised (take n p)) l ∙ ap raised (take-suc p k 0 le) ∙ raised_snoc (take k p) (get_or p k 0)

  front : length (take k p) ≡ k
  front = omega (arith, length-take k p)

  pub next_apart : shared p d < k → follows p d ≡ false
  next_apart lt = never p d (λ e. omega (arith, child_length p d e)) (λ e.
      let a : Agree k p d = take_agree k p d (omega arith) (sym (ap (take k) (e ∙ cut) ∙ take_at (take k p) (suc (get_or p k 0) ∷ []) k front)) (omega arith) in
      omega (arith, agree→shared k p d a))

  pub next_decides : k ≤ shared p d → follows p d ≡ eqb (get_or d k 0) (get_or p k 0 + 1)
  next_decides h = same_test (follows p d) (eqb (get_or d k 0) (get_or p k 0 + 1))
      (λ q. ⊎_elim (λ e. let z : ⊥ = omega (arith, child_length p d e) in absurd z)
      (λ e. eq-eqb (get_or d k 0) (get_or p k 0 + 1) (ap (λ z. get_or z k 0) (e ∙ cut) ∙ get_or_at (take k p) (suc (get_or p k 0)) [] 0 k front ∙ sym (add-one (get_or p k 0))))
      (ways p d q))
      (λ q. next_follows p d (last_apart k d l
      ∙ ap (λ z. z ++ (get_or d k 0 ∷ [])) (sym (agree_take k p d (shared→agree k p d h)))
      ∙ ap (λ x. take k p ++ (x ∷ [])) (eqb-true (get_or d k 0) (get_or p k 0 + 1) q ∙ add-one (get_or p k 0)) ∙ sym cut))

-- ---- two rows as read
-- row y has some level, and a and b are the levels of the two
pub record Read (f : Format) (x y : List ℕ) (a b : ℕ) : Type 0 where
  pub fits_x : byte x 0 ≤ f.levels
  pub fits_y : byte y 0 ≤ f.levels
  pub some_y : 1 ≤ byte y 0
  pub level_x : a ≡ byte x 0
  pub level_y : b ≡ byte y 0

module _ {f : Format} {x y : List ℕ} {a b : ℕ} (r : Read f x y a b) where
  abbrev p : List ℕ
  p = dewey (row_of f x)

  abbrev d : List ℕ
  d = dewey (row_of f y)

  lp : length p ≡ a
  lp = dewey-length f x r.fits_x ∙ sym r.level_x

  ld : length d ≡ b
  ld = dewey-length f y r.fits_y ∙ sym r.level_y

  pub rows_longer : a + 1 < b → false ≡ follows (dewey (row_of f x)) (dewey (row_of f y))
  rows_longer lt = sym (longer_apart p d (omega (arith, lp, ld)))

  -- they do not agree above the last component of the later one
  pub rows_apart : b ≤ a + 1 → leb (b - 1) (met f x y) ≡ false → false ≡ follows (dewey (row_of f x)) (dewey (row_of f y))
  rows_apart le apart = go (leb b a) refl
    where
      lt : met f x y < b - 1
      lt = leb-false (b - 1) (met f x y) apart

      go : (t : Bool) → leb b a ≡ t → false ≡ follows p d
      go true e = sym (next_apart p d (b - 1) (omega (arith, ld, lt)) (omega (arith, lp, lt, leb-true b a e)) lt)
      go false e = let more = leb-false b a e in sym (child_apart p d (omega (arith, lp, ld)) (omega (arith, lp, lt)))

  -- they do: the later one is longer by one, or not longer
  module _ (agrees : leb (b - 1) (met f x y) ≡ true) where
    deep : b - 1 ≤ met f x y
    deep = leb-true (b - 1) (met f x y) agrees

    some : 1 ≤ b
    some = omega (arith, r.some_y, r.level_y)

    last_y : get_or d (b - 1) 0 ≡ get_or (words f.levels y 4) (b - 1) 0
    last_y = dewey-at f y r.fits_y (b - 1) (omega (arith, some, r.level_y))

    pub rows_child : b ≤ a + 1 → a < b → (v : ℕ) → v ≡ get_or (words f.levels y 4) (b - 1) 0 → eqb v 1 ≡ follows (dewey (row_of f x)) (dewey (row_of f y))
    rows_child le lt v ev =
        let e : b - 1 ≡ length p = omega (arith, lp) in
        ap (λ z. eqb z 1) (ev ∙ sym last_y ∙ ap (λ n. get_or d n 0) e) ∙ sym (child_decides p d (omega (arith, lp, ld)) (omega (arith, e, deep)))

    pub rows_next : b ≤ a → (v u : ℕ) → v ≡ get_or (words f.levels y 4) (b - 1) 0 → u ≡ get_or (words f.levels x 4) (b - 1) 0
        → eqb v (u + 1) ≡ follows (dewey (row_of f x)) (dewey (row_of f y))
    rows_next le v u ev eu =
        ap₂ (λ z c. eqb z (c + 1)) (ev ∙ sym last_y) (eu ∙ sym (dewey-at f x r.fits_x (b - 1) (omega (arith, some, r.level_x))))
        ∙ sym (next_decides p d (b - 1) (omega (arith, ld, some)) (omega (arith, lp, some)) deep)
