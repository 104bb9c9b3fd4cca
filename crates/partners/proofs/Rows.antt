-- Rows with and without a row of another type in their run. Assumes nothing.
use Prim.Native.Nat.{ℕ, ◌≤◌, ◌<◌}
use native.Mathlib.Omega.{arith}
use mathlib.Core.Path.{◌≡◌, refl, sym, ◌∙◌}
use mathlib.Core.Bool.{Bool, true, false, ◌&&◌, true≢false}
use mathlib.Core.List.{List}
use lib.Dec.{eqb}
use lib.ListN.{get_or}
use borrow.Author.Tests.{eqb-true, eq-eqb, le-leb, lt-leb}
use Rattle.paper.specs.Lists.{Has, is_empty, count}
use Rattle.paper.proofs.Lists.{both, and, keep-has, has-keep, some_in, in_some, count-has, has-count}
use Rattle.closest.specs.Runs.{begins, start_of}
use Rattle.partners.specs.Closest.{closest_rows, is_lone, lone_rows, Bound}

-- a list is empty where whatever it has is absurd
pub none_empty : {A : Type 0} (xs : List A) → ((x : A) → Has x xs → ⊥) → is_empty xs ≡ true
none_empty xs none = go (is_empty xs) refl
  where
    go : (b : Bool) → is_empty xs ≡ b → is_empty xs ≡ true
    go true e = e
    go false e = let (x, h) = some_in xs e in absurd (none x h)

-- a run of level l begins at row i exactly where the row's level is within the bound
module _ (levels : List ℕ) (l bound i : ℕ) (bounds : Bound l bound) (byte : get_or levels i 0 < 256) where
  pub begins-within : get_or levels i 0 ≤ bound → begins levels l i ≡ true
  begins-within le = sym (bounds (get_or levels i 0) byte) ∙ le-leb (get_or levels i 0) bound le

  pub on_above : bound < get_or levels i 0 → begins levels l i ≡ false
  on_above lt = sym (bounds (get_or levels i 0) byte) ∙ lt-leb (get_or levels i 0) bound lt

module _ (levels types : List ℕ) (rows l b : ℕ) where
  -- a row of type b stands in the run of row i
  abbrev pub Joined : ℕ → Type 0
  Joined i = (j : ℕ) × (j < rows) × (get_or types j 0 ≡ b) × (start_of levels l i ≡ start_of levels l j)

  -- none does
  abbrev pub Apart : ℕ → Type 0
  Apart i = (j : ℕ) → j < rows → get_or types j 0 ≡ b → start_of levels l i ≡ start_of levels l j → ⊥

  pub joined_some : (i : ℕ) → Joined i → is_empty (closest_rows levels types rows l b i) ≡ false
  unfolding closest_rows
  joined_some i (j, lj, own, same) =
      in_some j (closest_rows levels types rows l b i) (has-keep _ j (count 0 rows) (has-count 0 rows j (omega arith) (omega arith))
      (and (eq-eqb (get_or types j 0) b own) (eq-eqb (start_of levels l i) (start_of levels l j) same)))

  pub apart_none : (i : ℕ) → Apart i → is_empty (closest_rows levels types rows l b i) ≡ true
  unfolding closest_rows
  apart_none i none = none_empty (closest_rows levels types rows l b i) (λ j h.
      let (c, p) = keep-has _ j (count 0 rows) h in
      let (x, y) = both (eqb (get_or types j 0) b) (eqb (start_of levels l i) (start_of levels l j)) p in
      none j (omega (arith, count-has 0 rows j c)) (eqb-true (get_or types j 0) b x) (eqb-true (start_of levels l i) (start_of levels l j) y))

  -- a row of type a with one of type b in its run is not lone, and neither is one of another type
  pub joined_lone : (a i : ℕ) → (get_or types i 0 ≡ a → Joined i) → is_lone levels types rows l a b i ≡ false
  joined_lone a i joined = go (eqb (get_or types i 0) a) refl
    where
      go : (x : Bool) → eqb (get_or types i 0) a ≡ x → (x && is_empty (closest_rows levels types rows l b i)) ≡ false
      go true e = joined_some i (joined (eqb-true (get_or types i 0) a e))
      go false e = refl

  module _ (a : ℕ) where
    -- no row of type a is lone where each has one of type b in its run
    pub all_joined : ((i : ℕ) → i < rows → get_or types i 0 ≡ a → Joined i) → is_empty (lone_rows levels types rows l a b) ≡ true
    unfolding lone_rows
    all_joined each = none_empty (lone_rows levels types rows l a b) (λ i h.
        let (c, p) = keep-has (is_lone levels types rows l a b) i (count 0 rows) h in
        let (x, y) = both (eqb (get_or types i 0) a) (is_empty (closest_rows levels types rows l b i)) p in
        true≢false (sym y ∙ joined_some i (each i (omega (arith, count-has 0 rows i c)) (eqb-true (get_or types i 0) a x))))

    pub one_apart : (i : ℕ) → i < rows → get_or types i 0 ≡ a → Apart i → is_empty (lone_rows levels types rows l a b) ≡ false
    unfolding lone_rows
    one_apart i li own none =
        in_some i (lone_rows levels types rows l a b) (has-keep (is_lone levels types rows l a b) i (count 0 rows)
        (has-count 0 rows i (omega arith) (omega arith)) (and (eq-eqb (get_or types i 0) a own) (apart_none i none)))

-- a row is in its own run
pub own_joined : (levels types : List ℕ) (rows l a : ℕ) → is_empty (lone_rows levels types rows l a a) ≡ true
own_joined levels types rows l a = all_joined levels types rows l a a (λ i li own. (i, li, own, refl))
