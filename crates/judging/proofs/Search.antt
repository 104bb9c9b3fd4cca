-- The search for a row without a partner, step by step. Assumes nothing.
use Prim.Native.Nat.{ℕ, zero, suc, ◌+◌, ◌-◌, ◌≤◌, ◌<◌}
use native.Mathlib.Nat.{not-suc-le-zero}
use native.Mathlib.Numerals.{add-one}
use native.Mathlib.Omega.{arith}
use mathlib.Core.Path.{◌≡◌, refl, sym, ◌∙◌, ap, subst}
use mathlib.Core.Logic.{inl, inr, ⊎_elim}
use mathlib.Core.Bool.{Bool, true, false, true≢false}
use mathlib.Core.List.{List, [], ◌∷◌, ◌++◌, map}
use lib.Dec.{eqb, leb}
use lib.ListN.{get_or}
use borrow.Author.Tests.{leb-true, leb-false, le-leb, lt-leb, eq-eqb, ne_eqb}
use Rattle.paper.specs.Lists.{keep, is_empty, first_or, join_map, count}
use Rattle.paper.specs.Verdict.{Verdict, kept, missing}
use Rattle.types.proofs.Step.{below}
use Rattle.closest.specs.Runs.{begins, start_of}
use Rattle.closest.proofs.Starts.{start_begins, start_on, start_le, start_grows}
use Rattle.shapes.specs.Shape.{type_of, parent_of, edge_of}
use Rattle.shapes.specs.declared.shape.Shape.{Shape}
use Rattle.partners.specs.Closest.{is_lone, lone_rows, alone_rows, Bound}
use Rattle.partners.specs.Edges.{MetBefore}
use Rattle.partners.proofs.Rows.{Apart, joined_some, apart_none, begins-within, on_above}
use Rattle.judging.specs.Lone.{lone_from, candidate_from, OnInRun}
use Rattle.judging.proofs.Counting.{count-from, count-done}

-- ---- where candidates are looked for
pub candidate_new : (levels : List ℕ) (bound r j : ℕ) → get_or levels r 0 ≤ bound → candidate_from levels bound r j ≡ r
candidate_new levels bound r j le = rw (le-leb (get_or levels r 0) bound le, candidate_from) refl

pub candidate_on : (levels : List ℕ) (bound r j : ℕ) → bound < get_or levels r 0 → candidate_from levels bound r j ≡ j
candidate_on levels bound r j lt = rw (lt-leb (get_or levels r 0) bound lt, candidate_from) refl

-- candidate j is in the run of row r, and no row of the run before it is of type b
pub record Stands (levels types : List ℕ) (rows l b r j : ℕ) : Type 0 where
  pub inside : j < rows
  pub same : start_of levels l r ≡ start_of levels l j
  pub none : (i : ℕ) → i < j → get_or types i 0 ≡ b → start_of levels l r ≡ start_of levels l i → ⊥

-- the candidates before j are no partners of row r; at `rows` there is none
pub record Candidates (levels types : List ℕ) (rows l b r j : ℕ) : Type 0 where
  pub inside : j ≤ rows
  pub stands : j < rows → Stands levels types rows l b r j
  pub none : rows ≤ j → Apart levels types rows l b r

module _ (levels types : List ℕ) (rows l b bound : ℕ) (bytes : (i : ℕ) → get_or levels i 0 < 256) (bounds : Bound l bound) where
  abbrev start : ℕ → ℕ
  start i = start_of levels l i

  pub stands_new : (r : ℕ) → r < rows → get_or levels r 0 ≤ bound → Stands levels types rows l b r r
  stands_new r lr le = record {
    inside = lr;
    same = refl;
    none = λ i lt own e. omega (arith, e, start_le levels l i, start_begins levels l r (begins-within levels l bound r bounds (bytes r) le));
  }

  pub stands_first : 0 < rows → Stands levels types rows l b 0 0
  stands_first pos = record { inside = pos; same = refl; none = λ i lt own e. not-suc-le-zero lt }

  pub stands_on : (r j : ℕ) → bound < get_or levels (suc r) 0 → Stands levels types rows l b r j → Stands levels types rows l b (suc r) j
  stands_on r j up g =
      let on : start (suc r) ≡ start r = start_on levels l r (on_above levels l bound (suc r) bounds (bytes (suc r)) up) in
      record { inside = g.inside; same = on ∙ g.same; none = λ i lt own e. g.none i lt own (sym on ∙ e) }

  pub candidates_start : (r j : ℕ) → Stands levels types rows l b r j → Candidates levels types rows l b r j
  candidates_start r j g = record {
    inside = omega (arith, g.inside);
    stands = λ lt. g;
    none = λ le. let z : ⊥ = omega (arith, g.inside) in absurd z;
  }

  pub candidates_next : (r j k : ℕ) → Candidates levels types rows l b r j → j < rows → (get_or types j 0 ≡ b → ⊥) → OnInRun levels rows bound j k
      → Candidates levels types rows l b r k
  candidates_next r j k c lj other (inl (ek, lk, up)) =
      let g = c.stands lj in
      let q : k ≡ suc j = omega arith in
      let on : start (suc j) ≡ start j = start_on levels l j (subst (λ k. begins levels l k ≡ false) q (on_above levels l bound k bounds (bytes k) up)) in
      record {
        inside = omega arith;
        stands = λ lt. record {
          inside = lk;
          same = g.same ∙ sym on ∙ ap start (sym q);
          none = λ i li own e. ⊎_elim (λ x. g.none i x own e) (λ z. other (subst (λ i. get_or types i 0 ≡ b) z own)) (below i j (omega arith));
        };
        none = λ le. let z : ⊥ = omega arith in absurd z;
      }
  candidates_next r j k c lj other (inr (ek, stop)) = record {
    inside = omega arith;
    stands = λ lt. let z : ⊥ = omega arith in absurd z;
    none = λ le i li own e. past i li own e (leb (j + 1) i) refl;
  }
    where
      past : (i : ℕ) → i < rows → get_or types i 0 ≡ b → start r ≡ start i → (c : Bool) → leb (j + 1) i ≡ c → ⊥
      past i li own e true q =
          let le = leb-true (j + 1) i q in
          omega (
            arith,
            e,
            (c.stands lj).same,
            start_le levels l j,
            start_grows levels l (j + 1) i le,
            start_begins levels l (j + 1) (begins-within levels l bound (j + 1) bounds (bytes (j + 1)) (stop (omega arith))),
          )
      past i li own e false q =
          let lt = leb-false (j + 1) i q in
          ⊎_elim (λ x. (c.stands lj).none i x own e) (λ z. other (subst (λ i. get_or types i 0 ≡ b) z own)) (below i j lt)

-- ---- the answer from entry c and row r on
module _ (levels types : List ℕ) (rows : ℕ) (s : Shape) where
  -- is row r of entry c's type, without a partner?
  abbrev is_alone : ℕ → ℕ → Bool
  is_alone c = is_lone levels types rows (edge_of s c) (type_of s c) (type_of s (parent_of s c))

  -- the rows without a partner from row r on
  abbrev pub alone_from : ℕ → ℕ → List ℕ
  alone_from c r = keep (is_alone c) (count r (rows - r))

  -- the first of these rows of entry c, then of the entries after it
  abbrev first_from : ℕ → List ℕ → Verdict
  first_from c rs = first_or kept (map (missing c) rs ++ lone_from levels types rows s (c + 1) (s.entries - (c + 1)))

  abbrev pub entries_from : ℕ → Verdict
  entries_from c = first_or kept (lone_from levels types rows s c (s.entries - c))

  abbrev pub rows_from : ℕ → ℕ → Verdict
  rows_from c r = first_from c (alone_from c r)

  module _ (c : ℕ) where
    -- the rows of the next entry
    entry_more : c < s.entries → rows_from c 0 ≡ entries_from c
    unfolding lone_from lone_rows
    entry_more lt =
        let n : rows - 0 ≡ rows = omega arith in
        ap (λ n. first_from c (keep (is_alone c) (count 0 n))) n
        ∙ sym (ap (λ cs. first_or kept (join_map (λ c. map (missing c) (alone_rows levels types rows s c)) cs)) (count-from c s.entries lt))

    -- an entry whose rows all have a partner is passed over
    entry_met : c < s.entries → is_empty (alone_rows levels types rows s c) ≡ true → entries_from c ≡ entries_from (c + 1)
    unfolding lone_from
    entry_met lt e =
        ap (λ cs. first_or kept (join_map (λ c. map (missing c) (alone_rows levels types rows s c)) cs)) (count-from c s.entries lt)
        ∙ ap (first_from c) (empty (alone_rows levels types rows s c) e)
      where
        empty : (xs : List ℕ) → is_empty xs ≡ true → xs ≡ []
        empty [] e = refl
        empty (x ∷ xs) e = absurd (true≢false (sym e))

    pub entry-none : s.entries ≤ c → entries_from c ≡ kept
    unfolding lone_from
    entry-none le = ap (λ cs. first_or kept (join_map (λ c. map (missing c) (alone_rows levels types rows s c)) cs)) (count-done c s.entries le)

  -- so are all entries before entry n
  pub entries_met : (n : ℕ) → 1 ≤ n → n ≤ s.entries → ((c : ℕ) → c < n → is_empty (alone_rows levels types rows s c) ≡ true)
      → entries_from n ≡ entries_from 1
  entries_met zero some few each = let z : ⊥ = omega arith in absurd z
  entries_met (suc zero) some few each = refl
  entries_met (suc (suc n)) some few each =
      ap entries_from (sym (add-one (suc n))) ∙ sym (entry_met (suc n) (omega arith) (each (suc n) (omega arith)))
      ∙ entries_met (suc n) (omega arith) (omega arith) (λ c lt. each c (omega arith))

  -- row r is asked first
  module _ (c r : ℕ) (lr : r < rows) where
    row_asked : (x : Bool) → is_alone c r ≡ x → alone_from c r ≡ elim x as (λ _. List ℕ) [ true ↦ r ∷ alone_from c (r + 1) | false ↦ alone_from c (r + 1) ]
    row_asked x e = ap (keep (is_alone c)) (count-from r rows lr) ∙ step x e
      where
        step : (x : Bool) → is_alone c r ≡ x → keep (is_alone c) (r ∷ count (r + 1) (rows - (r + 1)))
            ≡ elim x as (λ _. List ℕ) [ true ↦ r ∷ alone_from c (r + 1) | false ↦ alone_from c (r + 1) ]
        step true e = rw (e, keep) refl
        step false e = rw (e, keep) refl

    row_passed : is_alone c r ≡ false → rows_from c (r + 1) ≡ rows_from c r
    row_passed e = ap (first_from c) (sym (row_asked false e))

    row_found : is_alone c r ≡ true → missing c r ≡ rows_from c r
    row_found e = ap (first_from c) (sym (row_asked true e))

  -- the rows before row r are passed
  rows_passed : (c r : ℕ) → r ≤ rows → ((i : ℕ) → i < r → is_alone c i ≡ false) → rows_from c r ≡ rows_from c 0
  rows_passed c zero le none = refl
  rows_passed c (suc r) le none =
      ap (rows_from c) (sym (add-one r)) ∙ row_passed c r (omega arith) (none r (omega arith))
      ∙ rows_passed c r (omega arith) (λ i lt. none i (omega arith))

-- ---- the walk over the rows of an entry
-- what the search asks for entry c: its two types, and the bound of the runs
pub record Asked (levels types : List ℕ) (rows : ℕ) (s : Shape) (c own other bound : ℕ) : Type 0 where
  pub bytes : (i : ℕ) → get_or levels i 0 < 256
  pub before : c < s.entries
  pub own_is : own ≡ type_of s c
  pub other_is : other ≡ type_of s (parent_of s c)
  pub bounds : Bound (edge_of s c) bound

-- the rows before r are done, and the answer is still to come
pub record Done (levels types : List ℕ) (rows : ℕ) (s : Shape) (c j r : ℕ) (answer : Verdict) : Type 0 where
  pub inside : r ≤ rows
  pub first : r ≡ 0 → j ≡ 0
  pub stands : (q : ℕ) → r ≡ suc q → begins levels (edge_of s c) r ≡ false → Stands levels types rows (edge_of s c) (type_of s (parent_of s c)) q j
  pub rest : rows_from levels types rows s c r ≡ answer

module _ {levels types : List ℕ} {rows : ℕ} {s : Shape} {c own other bound : ℕ} (q : Asked levels types rows s c own other bound) (answer : Verdict) where
  abbrev l : ℕ
  l = edge_of s c

  abbrev b : ℕ
  b = type_of s (parent_of s c)

  pub candidates_here : (r j : ℕ) → Stands levels types rows (edge_of s c) (type_of s (parent_of s c)) r j
      → Candidates levels types rows (edge_of s c) (type_of s (parent_of s c)) r j
  candidates_here = candidates_start levels types rows l b bound q.bytes q.bounds

  pub candidates_on : (r j k : ℕ) → Candidates levels types rows (edge_of s c) (type_of s (parent_of s c)) r j → j < rows → (get_or types j 0 ≡ other → ⊥)
      → OnInRun levels rows bound j k → Candidates levels types rows (edge_of s c) (type_of s (parent_of s c)) r k
  candidates_on r j k cs lj ne = candidates_next levels types rows l b bound q.bytes q.bounds r j k cs lj (λ e. ne (e ∙ sym q.other_is))

  -- the walk may begin at row r, where a run begins, if the rows before it have a partner
  pub done_before : (r : ℕ) → MetBefore levels types rows s c r → entries_from levels types rows s c ≡ answer → Done levels types rows s c r r answer
  done_before r m h = record {
    inside = m.inside;
    first = λ z. z;
    stands = λ p e no. absurd (true≢false (sym (m.new_run (omega arith)) ∙ no));
    rest = rows_passed levels types rows s c r m.inside m.none ∙ entry_more levels types rows s c q.before ∙ h;
  }

  module _ (j r : ℕ) (w : Done levels types rows s c j r answer) (lr : r < rows) where
    -- where the walk stands for row r
    pub standing : (k : ℕ) → k ≡ candidate_from levels bound r j → Stands levels types rows (edge_of s c) (type_of s (parent_of s c)) r k
    standing k ek = go (leb (get_or levels r 0) bound) refl
      where
        go : (x : Bool) → leb (get_or levels r 0) bound ≡ x → Stands levels types rows l b r k
        go true e =
            let le = leb-true (get_or levels r 0) bound e in
            subst (Stands levels types rows l b r) (sym (ek ∙ candidate_new levels bound r j le))
            (stands_new levels types rows l b bound q.bytes q.bounds r lr le)
        go false e = subst (Stands levels types rows l b r) (sym (ek ∙ candidate_on levels bound r j up)) (on r refl)
          where
            up : bound < get_or levels r 0
            up = leb-false (get_or levels r 0) bound e

            on : (p : ℕ) → r ≡ p → Stands levels types rows l b r j
            on zero z = subst (λ r. Stands levels types rows l b r j) (sym z)
                (subst (Stands levels types rows l b 0) (sym (w.first z)) (stands_first levels types rows l b bound q.bytes q.bounds (omega arith)))
            on (suc p) z = subst (λ r. Stands levels types rows l b r j) (sym z)
                (stands_on levels types rows l b bound q.bytes q.bounds p j (subst (λ r. bound < get_or levels r 0) z up)
                (w.stands p z (on_above levels l bound r q.bounds (q.bytes r) up)))

    -- the next row, where this one is passed over
    next_row : (k : ℕ) → Stands levels types rows l b r k → is_lone levels types rows l (type_of s c) b r ≡ false → Done levels types rows s c k (r + 1) answer
    next_row k g e = record {
      inside = omega arith;
      first = λ z. let y : ⊥ = omega arith in absurd y;
      stands = λ p z on. let y : r ≡ p = omega arith in subst (λ r. Stands levels types rows l b r k) y g;
      rest = row_passed levels types rows s c r lr e ∙ w.rest;
    }

    -- a row of another type
    pub done_other : (k : ℕ) → Stands levels types rows (edge_of s c) (type_of s (parent_of s c)) r k → (get_or types r 0 ≡ own → ⊥)
        → Done levels types rows s c k (r + 1) answer
    done_other k g ne = next_row k g (rw (ne_eqb (get_or types r 0) (type_of s c) (λ e. ne (e ∙ sym q.own_is))))

    module _ (own-type : get_or types r 0 ≡ own) (k : ℕ) (cs : Candidates levels types rows (edge_of s c) (type_of s (parent_of s c)) r k) where
      is_own : eqb (get_or types r 0) (type_of s c) ≡ true
      is_own = eq-eqb (get_or types r 0) (type_of s c) (own-type ∙ q.own_is)

      -- candidate k is a partner
      pub done_partnered : k < rows → get_or types k 0 ≡ other → Done levels types rows s c k (r + 1) answer
      done_partnered lk kb =
          let g = cs.stands lk in
          next_row k g (rw (is_own, joined_some levels types rows l b r (k, lk, kb ∙ q.other_is, g.same)))

      -- no candidate is left: the row decides
      pub done-alone : rows ≤ k → missing c r ≡ answer
      done-alone le = row_found levels types rows s c r lr (rw (is_own, apart_none levels types rows l b r (cs.none le))) ∙ w.rest
