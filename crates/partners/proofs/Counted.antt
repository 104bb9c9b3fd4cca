-- The rows of a type that the walk counts in a run. Assumes nothing.
use Prim.Native.Nat.{ℕ, zero, suc, ◌+◌, ◌≤◌, ◌<◌, zero-le}
use native.Mathlib.Omega.{arith}
use mathlib.Core.Path.{◌≡◌, refl, sym, ◌∙◌, ap}
use mathlib.Core.Bool.{Bool, true, false, ◌&&◌}
use mathlib.Core.List.{List}
use lib.Dec.{eqb, leb}
use lib.ListN.{length, get_or}
use borrow.Author.Tests.{eqb-true, eq-eqb, ne_eqb, eqb-false}
use Rattle.paper.proofs.Lists.{both, and}
use Rattle.closest.specs.Runs.{Rows, begins, start_of}
use Rattle.closest.proofs.Starts.{start_begins, start_on, start_le, start_grows}
use Rattle.partners.specs.Closest.{closest_rows, Bound}
use Rattle.partners.specs.Eight.{no_number, ended, counted}
use Rattle.partners.proofs.Tally.{one, tally, keep_tally, tally_le, tally_cut, tally_has, has_tally, tally_same}

pub counted_none : (levels types : List ℕ) (bound k : ℕ) → counted levels types bound k 0 ≡ 0
unfolding counted
counted_none levels types bound k = refl

module _ (levels types : List ℕ) (rows l : ℕ) where
  abbrev start : ℕ → ℕ
  start i = start_of levels l i

  abbrev kind : ℕ → ℕ
  kind i = get_or types i 0

  -- is row j of type k, in the run of row i?
  abbrev in_run : ℕ → ℕ → ℕ → Bool
  in_run k i j = eqb (kind j) k && eqb (start i) (start j)

  -- how many rows of type k stand in the run of row i
  abbrev number : ℕ → ℕ → ℕ
  number k i = length (closest_rows levels types rows l k i)

  -- no row after row i is of its run
  abbrev Over : ℕ → Type 0
  Over i = (j : ℕ) → i < j → j < rows → start i ≡ start j → ⊥

  number_tally : (k i : ℕ) → number k i ≡ tally (in_run k i) rows
  unfolding closest_rows
  number_tally k i = keep_tally (in_run k i) rows

  pub number_le : (k i : ℕ) → number k i ≤ rows
  number_le k i = omega (arith, number_tally k i, tally_le (in_run k i) rows)

  own_in : (k i : ℕ) → eqb k (kind i) ≡ in_run k i i
  own_in k i = go (eqb k (kind i)) refl
    where
      go : (b : Bool) → eqb k (kind i) ≡ b → eqb k (kind i) ≡ in_run k i i
      go true e = e ∙ sym (and (eq-eqb (kind i) k (sym (eqb-true k (kind i) e))) (eq-eqb (start i) (start i) refl))
      go false e = e ∙ sym (ap (λ b. b && eqb (start i) (start i)) (ne_eqb (kind i) k (λ q. eqb-false k (kind i) e (sym q))))

  not_in : (k i j : ℕ) → (start i ≡ start j → ⊥) → in_run k i j ≡ false
  not_in k i j ne = go (eqb (kind j) k) (ne_eqb (start i) (start j) ne)
    where
      go : (b : Bool) {c : Bool} → c ≡ false → (b && c) ≡ false
      go true e = e
      go false e = refl

  -- a run is over where the next begins
  pub begins-over : (i : ℕ) → begins levels l (suc i) ≡ true → Over i
  begins-over i e j lt lj same =
      omega (arith, start_begins levels l (suc i) e, start_grows levels l (suc i) j (omega arith), start_le levels l i, same)

  -- ---- the rows counted
  module _ (bound : ℕ) (bd : Bound l bound) (bytes : (i : ℕ) → i < rows → get_or levels i 0 < 256) where
    abbrev before : ℕ → ℕ → ℕ
    before k i = counted levels types bound k i

    within : (i : ℕ) → i < rows → leb (get_or levels i 0) bound ≡ begins levels l i
    within i lt = bd (get_or levels i 0) (bytes i lt)

    counted_new : (k i : ℕ) → i < rows → begins levels l i ≡ true → before k (suc i) ≡ one (eqb k (kind i))
    unfolding counted
    counted_new k i lt e = rw (within i lt ∙ e, counted) (omega arith)

    counted_on : (k i : ℕ) → i < rows → begins levels l i ≡ false → before k (suc i) ≡ before k i + one (eqb k (kind i))
    unfolding counted
    counted_on k i lt e = rw (within i lt ∙ e, counted) refl

    -- those of the first rows that are of the type and of the last one's run
    counted_is : (k i : ℕ) → i < rows → before k (suc i) ≡ tally (in_run k i) (suc i)
    counted_is k zero lt = go (begins levels l 0) refl
      where
        go : (b : Bool) → begins levels l 0 ≡ b → before k 1 ≡ tally (in_run k 0) 1
        go true e = omega (arith, counted_new k 0 lt e, ap one (own_in k 0))
        go false e = omega (arith, counted_on k 0 lt e, counted_none levels types bound k, ap one (own_in k 0))
    counted_is k (suc i) lt = go (begins levels l (suc i)) refl (counted_is k i (omega arith))
      where
        go : (b : Bool) → begins levels l (suc i) ≡ b → before k (suc i) ≡ tally (in_run k i) (suc i)
            → before k (suc (suc i)) ≡ tally (in_run k (suc i)) (suc (suc i))
        go true e ih =
            let none = tally_cut (in_run k (suc i)) 0 (suc i) zero-le
            (λ j a b. not_in k (suc i) j (λ q. omega (arith, start_begins levels l (suc i) e, start_le levels l j))) in
            omega (arith, counted_new k (suc i) lt e, ap one (own_in k (suc i)), none)
        go false e ih =
            let same = tally_same (in_run k (suc i)) (in_run k i) (suc i)
            (λ j b. ap (λ s. eqb (kind j) k && eqb s (start j)) (start_on levels l i e)) in
            omega (arith, counted_on k (suc i) lt e, ap one (own_in k (suc i)), same, ih)

    -- where a run is over, they are the rows of the type in the run of each of its rows
    pub run-number : (k i r : ℕ) → i < rows → Over i → start i ≡ start r → before k (suc i) ≡ number k r
    run-number k i r lt past same =
        counted_is k i lt ∙ sym (tally_cut (in_run k i) (suc i) rows lt (λ j a b. not_in k i j (past j a b)))
        ∙ tally_same (in_run k i) (in_run k r) rows (λ j b. ap (λ s. eqb (kind j) k && eqb s (start j)) same) ∙ sym (number_tally k r)

    pub counted-row : (k i : ℕ) → i < rows → 0 < before k (suc i) → (r : ℕ) × (r ≤ i) × (kind r ≡ k) × (start i ≡ start r)
    counted-row k i lt pos =
        let (r, lr, e) = tally_has (in_run k i) (suc i) (omega (arith, counted_is k i lt)) in
        let (x, y) = both (eqb (kind r) k) (eqb (start i) (start r)) e in
        (r, omega arith, eqb-true (kind r) k x, eqb-true (start i) (start r) y)

    pub row-counted : (k i r : ℕ) → i < rows → r ≤ i → kind r ≡ k → start i ≡ start r → 0 < before k (suc i)
    row-counted k i r lt le own same =
        omega (arith, counted_is k i lt, has_tally (in_run k i) (suc i) r (omega arith) (and (eq-eqb (kind r) k own) (eq-eqb (start i) (start r) same)))

-- ---- where no row has the type
module _ (levels types : List ℕ) (rows : ℕ) (rs : Rows rows levels types) (bound : ℕ) where
  pub unused_counted : (k : ℕ) → k ≡ no_number → (i : ℕ) → i ≤ rows → counted levels types bound k i ≡ 0
  unfolding counted
  unused_counted k e zero le = refl
  unused_counted k e (suc i) le = go (leb (get_or levels i 0) bound) (unused_counted k e i (omega arith))
    where
      other : eqb k (get_or types i 0) ≡ false
      other = ne_eqb k (get_or types i 0) (λ q. omega (arith, rs.type_few i le))

      go : (c : Bool) → counted levels types bound k i ≡ 0
          → elim c as (λ _. ℕ) [ true ↦ 0 | false ↦ counted levels types bound k i ] + one (eqb k (get_or types i 0)) ≡ 0
      go true ih = omega (arith, ap one other)
      go false ih = omega (arith, ap one other)

  -- nothing is counted in a run that ends, and nothing in one that goes on
  pub unused_ended : (k : ℕ) → k ≡ no_number → (i : ℕ) → i < rows → ended bound (get_or levels i 0) (counted levels types bound k i) ≡ 0
  unused_ended k e i lt = go (leb (get_or levels i 0) bound)
    where
      go : (c : Bool) → ◌≡◌ {A = ℕ} (elim c [ true ↦ counted levels types bound k i | false ↦ 0 ]) 0
      go true = unused_counted k e i (omega arith)
      go false = refl
