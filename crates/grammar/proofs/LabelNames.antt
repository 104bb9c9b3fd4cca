-- The names of labels: no two labels have the same, and the label of a part is the one that has it. Assumes nothing.
use Prim.Native.Nat.{ℕ, ◌-◌, ◌≤◌, ◌<◌}
use native.Mathlib.Omega.{arith}
use mathlib.Core.Path.{◌≡◌, refl, sym, ◌∙◌, ap}
use mathlib.Core.Logic.{inl}
use mathlib.Core.Bool.{Bool, true, false}
use mathlib.Core.List.{List, [], ◌∷◌}
use borrow.Author.Tests.{le-leb, ltb-true, eqb-true}
use lib.Dec.{eqb, ltb}
use Rattle.paper.specs.Lists.{Has, keep, all, first_or, place, between, count, same}
use Rattle.paper.specs.Format.{Format}
use Rattle.paper.proofs.Lists.{and, all-has, keep-has, has-keep, has-count, count-has, same_eq, eq_same, within}
use Rattle.grammar.specs.Text.{digit, decimal}
use Rattle.grammar.specs.Names.{names, named, name_of, name_text}
use Rattle.grammar.specs.Reader.{label_of}
use Rattle.grammar.proofs.Decimals.{decimal_apart, decimal_digits}

pub in_range : (a x b : ℕ) → a ≤ x → x ≤ b → between a x b ≡ true
in_range a x b lo hi = and (le-leb a x lo) (le-leb x b hi)

-- ---- the two ways to a name
-- what holds of each of the twenty names and of each number holds of each label's name
pub by_name : (P : List ℕ → Type 0) → ((k : ℕ) → k < named → P (name_of k)) → ((n : ℕ) → P (decimal n)) → (l : ℕ) → P (name_text l)
unfolding name_text
by_name P of-name of_number l = go (between 1 l named) refl
  where
    go : (b : Bool) → between 1 l named ≡ b → P (elim b [ true ↦ name_of (l - 1) | false ↦ decimal l ])
    go true e = let w = within 1 l named e in of-name (l - 1) (omega (arith, w.0, w.1))
    go false e = of_number l

-- what a computed test says of each of the twenty names
pub each_name : (p : ℕ → Bool) → all p (count 0 named) ≡ true → (k : ℕ) → k < named → p k ≡ true
each_name p e k lt = all-has p k (count 0 named) e (has-count 0 named k (omega arith) (omega arith))

-- ---- no two are the same
place_of : List ℕ → ℕ
unfolding names
place_of w = place (same w) names

name_place : (k : ℕ) → k < named → place_of (name_of k) ≡ k
unfolding names name_of place_of
name_place k lt = eqb-true (place_of (name_of k)) k (each_name (λ k. eqb (place_of (name_of k)) k) refl k lt)

name_letter : (k : ℕ) → k < named → digit 9 < first_or 0 (name_of k)
unfolding names name_of
name_letter k lt = ltb-true (digit 9) (first_or 0 (name_of k)) (each_name (λ k. ltb (digit 9) (first_or 0 (name_of k))) refl k lt)

first_in : (xs : List ℕ) → 0 < first_or 0 xs → Has (first_or 0 xs) xs
first_in [] lt = absurd (omega arith)
first_in (x ∷ xs) lt = inl refl

-- a name begins with a letter, a number with a digit
name_number : (k n : ℕ) → k < named → name_of k ≡ decimal n → ⊥
name_number k n lt e =
    let letter : digit 9 < first_or 0 (decimal n) = omega (arith, name_letter k lt, ap (first_or 0) e) in
    omega (arith, (decimal_digits n (first_or 0 (decimal n)) (first_in (decimal n) (omega arith))).1)

pub name_apart : (l m : ℕ) → name_text l ≡ name_text m → 1 ≤ l → 1 ≤ m → l ≡ m
unfolding name_text
name_apart l m e some also = go (between 1 l named) (between 1 m named) refl refl e
  where
    text_of : Bool → ℕ → List ℕ
    text_of b l = elim b [ true ↦ name_of (l - 1) | false ↦ decimal l ]

    go : (b c : Bool) → between 1 l named ≡ b → between 1 m named ≡ c → text_of b l ≡ text_of c m → l ≡ m
    go true true p q e =
        let v = within 1 l named p in
        let w = within 1 m named q in
        omega (arith, name_place (l - 1) (omega (arith, v.1)), name_place (m - 1) (omega (arith, w.1)), ap place_of e)
    go true false p q e = absurd (name_number (l - 1) m (omega (arith, (within 1 l named p).1)) e)
    go false true p q e = absurd (name_number (m - 1) l (omega (arith, (within 1 m named q).1)) (sym e))
    go false false p q e = decimal_apart l m e

-- ---- the label of a part
-- the labels of the format that have the part
abbrev having : Format → List ℕ → List ℕ
having f w = keep (λ l. same (name_text l) w) (count 1 f.labels)

module _ (f : Format) (w : List ℕ) where
  has_right : (l : ℕ) → Has l (having f w) → (between 1 l f.labels ≡ true) × (name_text l ≡ w)
  has_right l h =
      let k = keep-has (λ l. same (name_text l) w) l (count 1 f.labels) h in
      let c = count-has 1 f.labels l k.0 in
      (in_range 1 l f.labels c.0 (omega (arith, c.1)), same_eq (name_text l) w k.1)

  pub label_right : 0 < label_of f w → (between 1 (label_of f w) f.labels ≡ true) × (name_text (label_of f w) ≡ w)
  unfolding label_of
  label_right lt = has_right (label_of f w) (first_in (having f w) lt)

  pub label_none : ((l : ℕ) → between 1 l f.labels ≡ true → name_text l ≡ w → ⊥) → label_of f w ≡ 0
  unfolding label_of
  label_none none = go (having f w) has_right
    where
      go : (xs : List ℕ) → ((x : ℕ) → Has x xs → (between 1 x f.labels ≡ true) × (name_text x ≡ w)) → first_or 0 xs ≡ 0
      go [] each = refl
      go (x ∷ xs) each = let q = each x (inl refl) in absurd (none x q.0 q.1)

pub label_is : (f : Format) (l : ℕ) (w : List ℕ) → between 1 l f.labels ≡ true → name_text l ≡ w → label_of f w ≡ l
unfolding label_of
label_is f l w r e =
    let v = within 1 l f.labels r in
    go (having f w)
    (has-keep (λ l. same (name_text l) w) l (count 1 f.labels) (has-count 1 f.labels l v.0 (omega (arith, v.1))) (eq_same e))
    (has_right f w)
  where
    go : (xs : List ℕ) → Has l xs → ((x : ℕ) → Has x xs → (between 1 x f.labels ≡ true) × (name_text x ≡ w)) → first_or 0 xs ≡ l
    go [] h each = absurd h
    go (x ∷ xs) h each =
        let q = each x (inl refl) in
        name_apart x l (q.1 ∙ sym e) (within 1 x f.labels q.0).0 (within 1 l f.labels r).0
