-- The walks along the type numbers. Assumes nothing.
use Prim.Native.Nat.{ℕ, zero, suc, ◌+◌, ◌≤◌, ◌<◌}
use native.Mathlib.Nat.{not-suc-le-zero, le_of_suc-le-suc}
use native.Mathlib.Numerals.{add-one}
use native.Mathlib.Omega.{arith}
use mathlib.Core.Path.{◌≡◌, refl, sym, ◌∙◌, ap, ap₂}
use mathlib.Core.Logic.{⊎_elim}
use mathlib.Core.Bool.{Bool, true, false}
use mathlib.Core.List.{List, [], ◌∷◌}
use lib.Dec.{eqb}
use lib.ListN.{length, get_or, take, drop, set}
use lib.Seq.{drop-cons, get_or-take, length-take-le, get_or-set_same, get_or-set_other}
use borrow.Author.Tests.{eqb-true, eqb-false, ltb-false}
use Rattle.std.proofs.Common.{cond, nat_lt}
use Rattle.std.specs.List.{position, position_or_len}
use Rattle.std.proofs.lemmas.List.Quantifiers.{position-Some}
use Rattle.std.proofs.lemmas.List.Sums.{fails_before_first}
use Rattle.types.proofs.Step.{below}
use Rattle.adorned.specs.Runs.{lead, runs, with_count, CountRange, TypeLevels}
use Rattle.std.specs.Prelude.{Option, None, Some}
use Rattle.std.proofs.lemmas.List.{at_drop_all}
use Rattle.adorned.specs.declared.Range.{Range}
use Rattle.adorned.proofs.Fold.{ranged, ranged_all}

-- the counts still to come: the current one goes on
abbrev pub left : ℕ → ℕ → ℕ → List ℕ → List ℕ
left c p k rest = (c + lead p k rest) ∷ runs p k rest

-- ---- the walk at place i of l
pub record Walk (l : List ℕ) (p k : ℕ) (r : Option Range) (c i : ℕ) : Type 0 where
  pub inside : i ≤ length l
  pub counted : c ≤ i
  pub ends : ranged r (left c p k (drop i l)) ≡ ranged None (runs p k l)

-- ---- the first parent
module _ (p k : ℕ) where
  -- from the first of type p on its count, and those after it
  opened : (i : ℕ) (l : List ℕ) → i < length l → eqb (get_or l i 0) p ≡ true → ((j : ℕ) → j < i → eqb (get_or l j 0) p ≡ false)
      → runs p k l ≡ left 0 p k (drop (suc i) l)
  opened i [] lt here before = absurd (not-suc-le-zero lt)
  opened zero (x ∷ l) lt here before = rw (here, runs) (ap {B = List ℕ} (λ n. n ∷ runs p k l) (omega arith))
  opened (suc i) (x ∷ l) lt here before =
      rw (before 0 (omega arith), runs) (opened i l (le_of_suc-le-suc lt) here (λ j lj. before (suc j) (omega (arith, lj))))

  -- where none is of type p, nothing is counted
  unopened : (l : List ℕ) → ((j : ℕ) → j < length l → eqb (get_or l j 0) p ≡ false) → runs p k l ≡ []
  unopened [] before = refl
  unopened (x ∷ l) before = rw (before 0 (omega arith), runs) (unopened l (λ j lj. before (suc j) (omega (arith, lj))))

  pub walk_start : (l : List ℕ) (i : ℕ) → position (λ x. eqb x p) l ≡ Some i → Walk l p k None 0 (i + 1)
  walk_start l i e =
      let (lt, here, before) = position-Some (λ x. eqb x p) l i 0 e in record {
        inside = omega (arith, lt);
        counted = omega arith;
        ends = ap (ranged None) (ap (λ n. left 0 p k (drop n l)) (add-one i) ∙ sym (opened i l lt here before));
      }

  pub walk_none : (l : List ℕ) → position (λ x. eqb x p) l ≡ None → CountRange (runs p k l) 0 0
  walk_none l e =
      let none = unopened l (λ j lj. fails_before_first (λ x. eqb x p) l j 0 (go (nat_lt (position_or_len (λ x. eqb x p) l) (length l)) refl e j lj)) in
      rw none (refl, refl)
    where
      go : (t : Bool) → nat_lt (position_or_len (λ x. eqb x p) l) (length l) ≡ t → cond t (Some (position_or_len (λ x. eqb x p) l)) None ≡ None
          → (j : ℕ) → j < length l → j < position_or_len (λ x. eqb x p) l
      go true q e j lj = absurd (cc)
      go false q e j lj = omega (arith, lj, ltb-false (position_or_len (λ x. eqb x p) l) (length l) q)

-- ---- a row x, and the rows d after it
module _ (p k x : ℕ) (d : List ℕ) where
  left_parent : (c : ℕ) → eqb x p ≡ true → left c p k (x ∷ d) ≡ c ∷ left 0 p k d
  left_parent c e =
      let none : lead p k (x ∷ d) ≡ 0 = rw (e, lead) refl in
      let more : runs p k (x ∷ d) ≡ lead p k d ∷ runs p k d = rw (e, runs) refl in
      ap₂ {C = List ℕ} (λ n l. n ∷ l) (omega (arith, none)) (more ∙ ap {B = List ℕ} (λ n. n ∷ runs p k d) (omega arith))

  left_child : (c : ℕ) → eqb x p ≡ false → eqb x k ≡ true → left c p k (x ∷ d) ≡ left (c + 1) p k d
  left_child c e q =
      let one : lead p k (x ∷ d) ≡ suc (lead p k d) = rw (e, lead) (rw q refl) in
      let same : runs p k (x ∷ d) ≡ runs p k d = rw (e, runs) refl in
      ap₂ {C = List ℕ} (λ n l. n ∷ l) (omega (arith, one)) same

  left_other : (c : ℕ) → eqb x p ≡ false → eqb x k ≡ false → left c p k (x ∷ d) ≡ left c p k d
  left_other c e q =
      let none : lead p k (x ∷ d) ≡ lead p k d = rw (e, lead) (rw q refl) in
      let same : runs p k (x ∷ d) ≡ runs p k d = rw (e, runs) refl in
      ap₂ {C = List ℕ} (λ n l. n ∷ l) (omega (arith, none)) same

-- row i of these, of type x, is next
module _ (rows : ℕ) (ks : List ℕ) (p k : ℕ) (r s : Option Range) (c d i x : ℕ) (w : Walk (take rows ks) p k r c i) (fits : rows ≤ length ks)
    (lt : i < rows) (is : x ≡ get_or ks i 0) where
  abbrev l : List ℕ
  l = take rows ks

  long : length l ≡ rows
  long = length-take-le rows ks fits

  turn : ranged r (left c p k (x ∷ drop (suc i) l)) ≡ ranged s (left d p k (drop (suc i) l)) → d ≤ i + 1 → Walk l p k s d (i + 1)
  turn e few = record {
    inside = omega (arith, long, lt);
    counted = few;
    ends = ap (λ n. ranged s (left d p k (drop n l))) (add-one i) ∙ sym e
        ∙ sym (ap (λ y. ranged r (left c p k y)) (drop-cons l i 0 (omega (arith, long, lt)) ∙ ap {B = List ℕ} (λ n. n ∷ drop (suc i) l) (get_or-take rows ks i 0 lt ∙ sym is))) ∙ w.ends;
  }

  pub walk_turn : (x ≡ p → (s ≡ Some (with_count r c)) × (d ≡ 0)) → ((x ≡ p → ⊥) → x ≡ k → (s ≡ r) × (d ≡ c + 1))
      → ((x ≡ p → ⊥) → (x ≡ k → ⊥) → (s ≡ r) × (d ≡ c)) → Walk (take rows ks) p k s d (i + 1)
  walk_turn parent child other = go (eqb x p) (eqb x k) refl refl
    where
      go : (a b : Bool) → eqb x p ≡ a → eqb x k ≡ b → Walk (take rows ks) p k s d (i + 1)
      go true b e q =
          let (se, de) = parent (eqb-true x p e) in
          turn (ap (ranged r) (left_parent p k x (drop (suc i) l) c e) ∙ ap₂ (λ a b. ranged a (left b p k (drop (suc i) l))) (sym se) (sym de)) (omega (arith, de))
      go false true e q =
          let (se, de) = child (eqb-false x p e) (eqb-true x k q) in
          turn (ap (ranged r) (left_child p k x (drop (suc i) l) c e q) ∙ ap₂ (λ a b. ranged a (left b p k (drop (suc i) l))) (sym se) (sym de))
          (omega (arith, de, w.counted))
      go false false e q =
          let (se, de) = other (eqb-false x p e) (eqb-false x k q) in
          turn (ap (ranged r) (left_other p k x (drop (suc i) l) c e q) ∙ ap₂ (λ a b. ranged a (left b p k (drop (suc i) l))) (sym se) (sym de))
          (omega (arith, de, w.counted))

-- ---- the walk at its end
pub walk_end : (l : List ℕ) (p k : ℕ) (r : Option Range) (c i : ℕ) → Walk l p k r c i → length l ≤ i → (x : Range) → x ≡ with_count r c
    → CountRange (runs p k l) x.least x.greatest
walk_end l p k r c i w le x is =
    let more : c ≡ c + 0 = omega arith in
    let q : x ≡ ranged None (runs p k l) = is ∙ ap (with_count r) more ∙ sym (at_drop_all (λ d. ranged r (left c p k d)) l i le) ∙ w.ends in
    let (lo, hi) = ranged_all (runs p k l) in
    (ap (λ (x : Range). x.least) q ∙ lo, ap (λ (x : Range). x.greatest) q ∙ hi)

-- ---- the level of each type, one row more
pub levels_more : (levels types found : List ℕ) (i k l : ℕ) → k ≡ get_or types i 0 → l ≡ get_or levels i 0 → k < length found
    → TypeLevels i levels types found → TypeLevels (i + 1) levels types (set found k l)
levels_more levels types found i k l ek el lt so_far h lh = go (eqb (get_or types h 0) k) refl
  where
    go : (b : Bool) → eqb (get_or types h 0) k ≡ b
        → (j : ℕ) × (j < i + 1) × (get_or types j 0 ≡ get_or types h 0) × (get_or (set found k l) (get_or types h 0) 0 ≡ get_or levels j 0)
    go true e =
        let q = eqb-true (get_or types h 0) k e in
        (i, omega arith, sym (q ∙ ek), ap (λ z. get_or (set found k l) z 0) q ∙ get_or-set_same found k l 0 lt ∙ el)
    go false e =
        let ne = eqb-false (get_or types h 0) k e in
        ⊎_elim (λ a. let (j, lj, same, is) = so_far h a in (j, omega arith, same, get_or-set_other found k (get_or types h 0) l 0 ne ∙ is))
        (λ q. absurd (ne (ap (λ z. get_or types z 0) q ∙ sym ek))) (below h i lh)
