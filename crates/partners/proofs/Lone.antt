-- The first run that has children and no parents, and where the first row without a partner is to be looked for. Assumes nothing.
use Prim.Native.Nat.{ℕ, zero, suc, ◌+◌, ◌-◌, ◌≤◌, ◌<◌, min}
use native.Mathlib.Nat.{not-suc-le-zero}
use native.Mathlib.Omega.{arith}
use mathlib.Core.Path.{◌≡◌, refl, sym, ◌∙◌, ap, subst}
use mathlib.Core.Logic.{◌⊎◌, inl, inr, ⊎_elim}
use mathlib.Core.Bool.{Bool, true, false}
use mathlib.Core.List.{List}
use lib.Dec.{eqb, leb}
use lib.ListN.{get_or}
use borrow.Author.Tests.{eqb-true, eq-eqb, ne_eqb, eqb-false, leb-true, leb-false}
use Rattle.paper.specs.Lists.{is_empty}
use Rattle.types.proofs.Step.{below}
use Rattle.closest.specs.Runs.{Rows, begins, start_of}
use Rattle.closest.proofs.Starts.{start_begins, start_on, start_le, start_grows}
use Rattle.partners.specs.Closest.{lone_rows, Bound}
use Rattle.partners.specs.Edges.{Before}
use Rattle.partners.specs.Eight.{no_number, first_end, counted, lone_to, lone_in}
use Rattle.partners.proofs.Rows.{Joined, Apart, joined_lone, all_joined, one_apart}

-- ---- one place
-- where a run has a parent row or no child row, the first end stays
first_kept : (m parents children i : ℕ) → (parents ≡ 0 → children ≡ 0) → first_end m parents children i ≡ m
first_kept m parents children i served = go (eqb parents 0) (eqb children 0) refl refl
  where
    go : (x y : Bool) → eqb parents 0 ≡ x → eqb children 0 ≡ y → elim x [ true ↦ elim y [ true ↦ m | false ↦ min m i ] | false ↦ m ] ≡ m
    go true true e d = refl
    go true false e d = absurd (eqb-false children 0 d (served (eqb-true parents 0 e)))
    go false y e d = refl

-- else it is the first of the two
first-lone : (m parents children i : ℕ) → parents ≡ 0 → 1 ≤ children → first_end m parents children i ≡ min m i
first-lone m parents children i none some =
    ap (λ x. elim x [ true ↦ elim (eqb children 0) [ true ↦ m | false ↦ min m i ] | false ↦ m ]) (eq-eqb parents 0 none)
    ∙ ap (λ y. elim y [ true ↦ m | false ↦ min m i ]) (ne_eqb children 0 (λ e. omega arith))

module _ (levels types : List ℕ) (rows : ℕ) (rs : Rows rows levels types) (l bound : ℕ) (bd : Bound l bound)
    (bytes : (i : ℕ) → i < rows → get_or levels i 0 < 256) where
  abbrev start : ℕ → ℕ
  start i = start_of levels l i

  abbrev count : ℕ → ℕ → ℕ
  count k i = counted levels types bound k i

  abbrev one : ℕ → ℕ → ℕ
  one k i = elim (eqb k (get_or types i 0)) [ true ↦ 1 | false ↦ 0 ]

  within : (i : ℕ) → i < rows → leb (get_or levels i 0) bound ≡ begins levels l i
  within i lt = bd (get_or levels i 0) (bytes i lt)

  -- ---- the rows counted in the run of row i
  count_new : (k i : ℕ) → i < rows → begins levels l i ≡ true → count k (suc i) ≡ one k i
  unfolding counted
  count_new k i lt e = rw (within i lt ∙ e, counted) (omega arith)

  count_on : (k i : ℕ) → i < rows → begins levels l i ≡ false → count k (suc i) ≡ count k i + one k i
  unfolding counted
  count_on k i lt e = rw (within i lt ∙ e, counted) refl

  one_own : (k i : ℕ) → 1 ≤ one k i → get_or types i 0 ≡ k
  one_own k i = go (eqb k (get_or types i 0)) refl
    where
      go : (b : Bool) → eqb k (get_or types i 0) ≡ b → 1 ≤ elim b [ true ↦ 1 | false ↦ 0 ] → get_or types i 0 ≡ k
      go true e h = sym (eqb-true k (get_or types i 0) e)
      go false e h = let z : ⊥ = omega (arith, h) in absurd z

  own_one : (k i : ℕ) → get_or types i 0 ≡ k → one k i ≡ 1
  own_one k i own = rw (eq-eqb k (get_or types i 0) (sym own), one) refl

  -- a row that is counted stands in the run
  counted_has : (k i : ℕ) → i < rows → 1 ≤ count k (suc i) → (j : ℕ) × (j ≤ i) × (get_or types j 0 ≡ k) × (start i ≡ start j)
  unfolding counted
  counted_has k zero li h = (0, omega arith, one_own k 0 (go (begins levels l 0) refl), refl)
    where
      go : (c : Bool) → begins levels l 0 ≡ c → 1 ≤ one k 0
      go true q = subst (λ n. 1 ≤ n) (count_new k 0 li q) h
      go false q = omega (arith, count_on k 0 li q, h)
  counted_has k (suc i) li h = go (begins levels l (suc i)) refl (counted_has k i (omega arith))
    where
      go : (c : Bool) → begins levels l (suc i) ≡ c → (1 ≤ count k (suc i) → (j : ℕ) × (j ≤ i) × (get_or types j 0 ≡ k) × (start i ≡ start j))
          → (j : ℕ) × (j ≤ suc i) × (get_or types j 0 ≡ k) × (start (suc i) ≡ start j)
      go true q ih = (suc i, omega arith, one_own k (suc i) (subst (λ n. 1 ≤ n) (count_new k (suc i) li q) h), refl)
      go false q ih = last (eqb k (get_or types (suc i) 0)) refl
        where
          last : (b : Bool) → eqb k (get_or types (suc i) 0) ≡ b → (j : ℕ) × (j ≤ suc i) × (get_or types j 0 ≡ k) × (start (suc i) ≡ start j)
          last true e = (suc i, omega arith, sym (eqb-true k (get_or types (suc i) 0) e), refl)
          last false e =
              let none : one k (suc i) ≡ 0 = rw (e, one) refl in
              let (j, le, own, same) = ih (omega (arith, count_on k (suc i) li q, h, none)) in
              (j, omega arith, own, start_on levels l i q ∙ same)

  own_counted : (k i : ℕ) → i < rows → get_or types i 0 ≡ k → (c : Bool) → begins levels l i ≡ c → 1 ≤ count k (suc i)
  own_counted k i li own true q = omega (arith, count_new k i li q, own_one k i own)
  own_counted k i li own false q = omega (arith, count_on k i li q, own_one k i own)

  -- and one that stands in it up to row i is counted
  has-counted : (k i j : ℕ) → i < rows → j ≤ i → get_or types j 0 ≡ k → start i ≡ start j → 1 ≤ count k (suc i)
  has-counted k zero j li le own same = own_counted k 0 li (subst (λ j. get_or types j 0 ≡ k) (omega arith) own) (begins levels l 0) refl
  has-counted k (suc i) j li le own same = ⊎_elim (λ lt. earlier (omega arith) (begins levels l (suc i)) refl (λ a b. has-counted k i j (omega arith) a own b))
      (λ e. own_counted k (suc i) li (subst (λ j. get_or types j 0 ≡ k) e own) (begins levels l (suc i)) refl) (below j (suc i) (omega arith))
    where
      earlier : j ≤ i → (c : Bool) → begins levels l (suc i) ≡ c → (j ≤ i → start i ≡ start j → 1 ≤ count k (suc i)) → 1 ≤ count k (suc (suc i))
      earlier le true q ih = let z : ⊥ = omega (arith, start_begins levels l (suc i) q, start_le levels l j, same) in absurd z
      earlier le false q ih = omega (arith, count_on k (suc i) li q, ih le (sym (start_on levels l i q) ∙ same))

  -- a run that does not begin at row 0 begins where one does
  start_new : (i : ℕ) → 0 < start i → begins levels l (start i) ≡ true
  start_new zero pos = let z : ⊥ = omega (arith, pos, start_le levels l 0) in absurd z
  start_new (suc i) pos = go (begins levels l (suc i)) refl (start_new i)
    where
      go : (c : Bool) → begins levels l (suc i) ≡ c → (0 < start i → begins levels l (start i) ≡ true) → begins levels l (start (suc i)) ≡ true
      go true q ih = ap (begins levels l) (start_begins levels l (suc i) q) ∙ q
      go false q ih = ap (begins levels l) (start_on levels l i q) ∙ ih (omega (arith, pos, start_on levels l i q))

  -- the rows from its begin to row i are of the run of row i
  start_inside : (i r : ℕ) → start i ≤ r → r ≤ i → start i ≡ start r
  start_inside i r ge le = go (leb (start i) (start r)) refl
    where
      go : (b : Bool) → leb (start i) (start r) ≡ b → start i ≡ start r
      go true e = omega (arith, leb-true (start i) (start r) e, start_grows levels l r i le)
      go false e =
          let lt = leb-false (start i) (start r) e in
          omega (arith, start_begins levels l (start i) (start_new i (omega (arith, lt))), start_grows levels l (start i) r ge)

  module _ (a b : ℕ) where
    -- each row of type b before row `from` has one of type a in its run
    abbrev Clear : ℕ → Type 0
    Clear from = (r : ℕ) → r < from → get_or types r 0 ≡ b → Joined levels types rows l a r

    -- some row of type b has none
    abbrev Some : Type 0
    Some = (r : ℕ) × (r < rows) × (get_or types r 0 ≡ b) × Apart levels types rows l a r

    -- m is where the first run with such a row ends, at row `most` at the latest, or there is none before row `from`
    abbrev First : (from most m : ℕ) → Type 0
    First from most m = ((m ≡ no_number) × Clear from) ⊎ ((j : ℕ) × (m ≡ suc j) × (suc j ≤ most) × Clear (start j) × Some)

    -- ---- a run ends after row i
    module _ (i : ℕ) (li : i < rows) where
      clear_more : Clear (start i) → (1 ≤ count b (suc i) → 1 ≤ count a (suc i)) → Clear (suc i)
      clear_more clear served r lt own = go (leb (start i) r) refl
        where
          go : (c : Bool) → leb (start i) r ≡ c → Joined levels types rows l a r
          go true e =
              let same = start_inside i r (leb-true (start i) r e) (omega arith) in
              let (j, le, other, at) = counted_has a i li (served (has-counted b i r li (omega arith) own same)) in
              (j, omega arith, other, sym same ∙ at)
          go false e = clear r (leb-false (start i) r e) own

      module _ (past : (j : ℕ) → i < j → j < rows → start i ≡ start j → ⊥) where
        apart_in : 1 ≤ count b (suc i) → count a (suc i) ≡ 0 → Some
        apart_in some none =
            let (r, le, own, same) = counted_has b i li some in
            (r, omega arith, own, λ j lj other at. go j lj other (same ∙ at) (leb j i) refl)
          where
            go : (j : ℕ) → j < rows → get_or types j 0 ≡ a → start i ≡ start j → (c : Bool) → leb j i ≡ c → ⊥
            go j lj other at true q = omega (arith, none, has-counted a i j li (leb-true j i q) other at)
            go j lj other at false q = past j (leb-false j i q) lj at

        abbrev after : ℕ → ℕ
        after m = first_end m (count a (suc i)) (count b (suc i)) (suc i)

        run_end : (m : ℕ) → First (start i) i m → First (suc i) (suc i) (after m)
        run_end m first = go (count a (suc i)) (count b (suc i)) refl refl
          where
            stays : after m ≡ m → (1 ≤ count b (suc i) → 1 ≤ count a (suc i)) → First (suc i) (suc i) (after m)
            stays e served = ⊎_elim (λ (none, clear). inl (e ∙ none, clear_more clear served))
                (λ (j, at, le, clear, some). inr (j, e ∙ at, omega arith, clear, some)) first

            ends : after m ≡ min m (suc i) → Some → First (suc i) (suc i) (after m)
            ends e some = ⊎_elim (λ (none, clear). inr (i, e ∙ omega (arith, none, rs.few), omega arith, clear, some))
                (λ (j, at, le, clear, other). inr (j, e ∙ omega (arith, at, le), omega arith, clear, other)) first

            go : (x y : ℕ) → count a (suc i) ≡ x → count b (suc i) ≡ y → First (suc i) (suc i) (after m)
            go (suc x) y p q = stays (first_kept m (count a (suc i)) (count b (suc i)) (suc i) (λ e. omega arith)) (λ h. omega arith)
            go zero zero p q = stays (first_kept m (count a (suc i)) (count b (suc i)) (suc i) (λ e. q)) (λ h. omega arith)
            go zero (suc y) p q = ends (first-lone m (count a (suc i)) (count b (suc i)) (suc i) p (omega arith)) (apart_in (omega arith) p)

    -- ---- along the rows
    abbrev lone : ℕ → ℕ
    lone i = lone_to levels types bound a b i

    lone_new : (i : ℕ) → i < rows → begins levels l i ≡ true → lone (suc i) ≡ first_end (lone i) (count a i) (count b i) i
    unfolding lone_to
    lone_new i lt e = ap (λ x. first_end (lone i) (count a i) (elim x [ true ↦ count b i | false ↦ 0 ]) i) (within i lt ∙ e)

    lone_on : (i : ℕ) → i < rows → begins levels l i ≡ false → lone (suc i) ≡ lone i
    unfolding lone_to
    lone_on i lt e =
        ap (λ x. first_end (lone i) (count a i) (elim x [ true ↦ count b i | false ↦ 0 ]) i) (within i lt ∙ e) ∙ first_kept (lone i) (count a i) 0 i (λ q. refl)

    clear_none : Clear 0
    clear_none r lt own = absurd (not-suc-le-zero lt)

    first_to : (i : ℕ) → i < rows → First (start i) i (lone (suc i))
    unfolding lone_to counted
    first_to zero li = inl (go (begins levels l 0) refl, subst Clear (omega (arith, start_le levels l 0)) clear_none)
      where
        go : (c : Bool) → begins levels l 0 ≡ c → lone 1 ≡ no_number
        go true q = lone_new 0 li q
        go false q = lone_on 0 li q
    first_to (suc i) li = go (begins levels l (suc i)) refl (first_to i (omega arith))
      where
        go : (c : Bool) → begins levels l (suc i) ≡ c → First (start i) i (lone (suc i)) → First (start (suc i)) (suc i) (lone (suc (suc i)))
        go true q ih =
            subst (λ m. First (start (suc i)) (suc i) m) (sym (lone_new (suc i) li q))
            (subst (λ from. First from (suc i) (first_end (lone (suc i)) (count a (suc i)) (count b (suc i)) (suc i))) (sym (start_begins levels l (suc i) q))
            (run_end i (omega arith) past (lone (suc i)) ih))
          where
            past : (j : ℕ) → i < j → j < rows → start i ≡ start j → ⊥
            past j lt lj same = omega (arith, start_begins levels l (suc i) q, start_grows levels l (suc i) j (omega arith), start_le levels l i, same)
        go false q ih =
            subst (λ m. First (start (suc i)) (suc i) m) (sym (lone_on (suc i) li q))
            (⊎_elim (λ (none, clear). inl (none, subst Clear (sym (start_on levels l i q)) clear))
            (λ (j, at, le, clear, some). inr (j, at, omega arith, clear, some)) ih)

    first_in : First rows rows (lone_in levels types bound a b rows)
    unfolding lone_to counted
    first_in = go rows refl
      where
        go : (n : ℕ) → n ≡ rows → First n n (lone_in levels types bound a b n)
        go zero e = inl (refl, clear_none)
        go (suc i) e = run_end i (omega arith) (λ j lt lj same. omega arith) (lone (suc i)) (first_to i (omega arith))

    -- where the first run with a row of type b and none of type a ends
    abbrev end : ℕ
    end = lone_in levels types bound a b rows

    -- ---- no row of type b is without one of type a, or the first that is stands in the run that ends there
    pub lone-none : lone_in levels types bound a b rows ≡ no_number → is_empty (lone_rows levels types rows l b a) ≡ true
    lone-none e = ⊎_elim (λ (none, clear). all_joined levels types rows l a b clear)
        (λ (j, at, le, clear, some). let z : ⊥ = omega (arith, e, at, rs.few) in absurd z) first_in

    pub lone-some : let end = lone_in levels types bound a b rows in end < no_number
        → (1 ≤ end) × (end ≤ rows) × (is_empty (lone_rows levels types rows l b a) ≡ false) × Before levels types rows l a b (start_of levels l (end - 1))
    lone-some lt = ⊎_elim (λ (none, clear). let z : ⊥ = omega (arith, none, lt) in absurd z) found first_in
      where
        found : ((j : ℕ) × (end ≡ suc j) × (suc j ≤ rows) × Clear (start j) × Some)
            → (1 ≤ end) × (end ≤ rows) × (is_empty (lone_rows levels types rows l b a) ≡ false) × Before levels types rows l a b (start_of levels l (end - 1))
        found (j, at, le, clear, (r, lr, own, none)) = (
          omega (arith, at),
          omega (arith, at),
          one_apart levels types rows l a b r lr own none,
          subst (λ j. Before levels types rows l a b (start j)) (omega (arith, at)) (record {
            inside = omega (arith, start_le levels l j);
            new_run = start_new j;
            none = λ i li. joined_lone levels types rows l a b i (clear i li);
          }),
        )
