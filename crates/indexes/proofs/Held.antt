-- The index of a table by its rows' levels and types, and lists that are held to it. Assumes nothing.
use Prim.Native.Nat.{ℕ, suc, ◌+◌, ◌≤◌, ◌<◌, min}
use native.Mathlib.Nat.{le_antisymm}
use native.Mathlib.Omega.{arith}
use mathlib.Core.Path.{◌≡◌, refl, sym, ◌∙◌, ap, ap₂}
use mathlib.Core.Bool.{Bool, true, false, not, ◌&&◌, ◌||◌}
use mathlib.Core.List.{List}
use mathlib.Core.Option.{Option, none, some}
use lib.Dec.{eqb, leb, ltb}
use lib.ListN.{get_or}
use borrow.Author.Tests.{eq-eqb, ne_eqb, lt-ltb, le-ltb, ltb-true, ltb-false, leb-true, leb-false}
use Rattle.paper.specs.Lists.{keep, first_or, last_or, place, count}
use Rattle.paper.specs.Format.{Format}
use Rattle.paper.specs.Tables as Tables
use Rattle.paper.specs.Tables.{Row}
use Rattle.paper.specs.Closeness.{Node, nodes, level, meet}
use Rattle.paper.specs.Calls.{given, tests1_4}
use Rattle.paper.specs.Index.{no_row, descends, repeats, places, last_descendant, next_of_type, too_short, wrong_at, wrong_row, tests_index}
use Rattle.paper.proofs.Index.{length-nodes, tested, tests_are}
use Rattle.closest.specs.Node.{node, Typed}
use Rattle.closest.specs.Runs.{Levelled, NextRow}
use Rattle.closest.proofs.Meets.{nodes_are, kind_at}
use Rattle.closest.proofs.Levels.{meet-level, meet_above, meet_within}
use Rattle.indexes.specs.Last.{LastRow}
use Rattle.indexes.specs.Wrong.{FirstWrong, earlier}
use Rattle.indexes.proofs.Wrong.{row_or, row_within, right_before, wrong_there, earlier_at, earlier_none}
use Rattle.std.specs.Prelude as Std
use Rattle.std.specs.Prelude.{Ok, Err, None, Some}
use Rattle.paper.specs.declared.refusal.Refusal.TheVariants.{IndexTooShort, WrongIndex}
use Rattle.indexes.specs.Tested.{Says}
use Rattle.indexes.proofs.Counted.{kept_places, placed, first-none, first_at_lem, last_at, place_none, place_at}

module _ (f : Format) (rows : ℕ) (t levels types : List ℕ) (lv : Levelled f rows t levels types) where
  abbrev ns : List Node
  ns = nodes (Tables.rows f t)

  abbrev at : ℕ → Node
  at i = node f t i

  abbrev ty : Typed f rows t types
  ty = lv.typed

  -- ---- the last descendant
  module _ (i p : ℕ) (li : i < rows) (last : LastRow rows levels i p) where
    own : get_or levels i 0 ≡ level (at i)
    own = lv.level-is i li

    under : descends (at i) (at p) ≡ true
    under = eq-eqb (meet (at i) (at p)) (level (at i)) (le_antisymm (meet-level f rows t types ty i p) (meet_within f rows t types ty (level (at i)) i p
        (omega (arith, last.from)) last.inside (omega arith) (λ m a b. omega (arith, own, last.deep m a b, lv.level-is m (omega (arith, last.inside))))))

    past : (x : ℕ) → suc p ≤ x → x < rows → descends (at i) (at x) ≡ false
    past x le lt = ne_eqb (meet (at i) (at x)) (level (at i)) (λ e. omega
        (arith, e, own, last.ends (omega arith), lv.level-is (suc p) (omega arith), meet_above f rows t types ty i (suc p) x (omega (arith, last.from)) le lt))

    pub last_is : last_descendant (nodes (Tables.rows f t)) (node f t i) ≡ p
    unfolding last_descendant
    last_is =
        ap (λ ns. last_or i (places (keep (descends (at i)) ns))) (nodes_are f rows t types ty)
        ∙ ap (last_or i) (kept_places at (λ x. refl) (descends (at i)) 0 rows)
        ∙ last_at (λ x. descends (at i) (at x)) i 0 rows p (omega arith) (omega (arith, last.inside)) under (λ x a b. past x a (omega arith))

  -- ---- the next row of the type
  module _ (i p : ℕ) (li : i < rows) (next : NextRow rows types i p) where
    same_kind : (x : ℕ) → x < rows → get_or types x 0 ≡ get_or types i 0 → (at x).kind ≡ (at i).kind
    same_kind x lx e = sym (kind_at f rows t types ty x lx) ∙ e ∙ kind_at f rows t types ty i li

    own_kind : (x : ℕ) → x < rows → (at x).kind ≡ (at i).kind → get_or types x 0 ≡ get_or types i 0
    own_kind x lx e = kind_at f rows t types ty x lx ∙ e ∙ sym (kind_at f rows t types ty i li)

    -- rows at or before row i, and those of another type
    unlike : (x : ℕ) → x < rows → (i < x → get_or types x 0 ≡ get_or types i 0 → ⊥) → repeats (at i) (at x) ≡ false
    unlike x lx other = go (ltb i x) refl
      where
        go : (b : Bool) → ltb i x ≡ b → repeats (at i) (at x) ≡ false
        go true e = ap₂ ◌&&◌ e (ne_eqb (at x).kind (at i).kind (λ q. other (ltb-true i x e) (own_kind x lx q)))
        go false e = ap (λ b. b && eqb (at x).kind (at i).kind) e

    by_count : next_of_type ns (at i) ≡ first_or no_row (keep (λ x. repeats (at i) (at x)) (count 0 rows))
    unfolding next_of_type
    by_count =
        ap (λ ns. first_or no_row (places (keep (repeats (at i)) ns))) (nodes_are f rows t types ty)
        ∙ ap (first_or no_row) (kept_places at (λ x. refl) (repeats (at i)) 0 rows)

    pub next_is : next_of_type (nodes (Tables.rows f t)) (node f t i) ≡ p
    next_is = by_count ∙ go (ltb p rows) refl
      where
        go : (b : Bool) → ltb p rows ≡ b → first_or no_row (keep (λ x. repeats (at i) (at x)) (count 0 rows)) ≡ p
        go true e =
            let lp = ltb-true p rows e in
            first_at_lem (λ x. repeats (at i) (at x)) no_row 0 rows p (omega arith) (omega arith)
            (ap₂ ◌&&◌ (lt-ltb i p (next.after lp)) (eq-eqb (at p).kind (at i).kind (same_kind p lp (next.typed lp))))
            (λ x a b. unlike x (omega arith) (λ lt q. next.passed x lt (omega arith) b q))
        go false e =
            let le = ltb-false p rows e in
            first-none (λ x. repeats (at i) (at x)) no_row 0 rows (λ x a b. unlike x (omega arith) (λ lt q. next.passed x lt (omega arith) (omega arith) q))
            ∙ sym (next.none le)

  -- ---- lists that are held to it
  module _ (last next : List ℕ) where
    abbrev wrong : ℕ → Bool
    wrong x = wrong_at ns last next (at x)

    right_at : (i : ℕ) → i < rows → LastRow rows levels i (get_or last i 0) → NextRow rows types i (get_or next i 0) → wrong i ≡ false
    unfolding wrong_at
    right_at i li a b = ap₂ (λ x y. not x || not y)
        (eq-eqb (get_or last i 0) (last_descendant ns (at i)) (sym (last_is i (get_or last i 0) li a)))
        (eq-eqb (get_or next i 0) (next_of_type ns (at i)) (sym (next_is i (get_or next i 0) li b)))

    wrong_last : (i p : ℕ) → i < rows → LastRow rows levels i p → (get_or last i 0 ≡ p → ⊥) → wrong i ≡ true
    unfolding wrong_at
    wrong_last i p li is ne = ap (λ x. not x || not (eqb (get_or next i 0) (next_of_type ns (at i))))
        (ne_eqb (get_or last i 0) (last_descendant ns (at i)) (λ e. ne (e ∙ last_is i p li is)))

    wrong_next : (i p : ℕ) → i < rows → NextRow rows types i p → (get_or next i 0 ≡ p → ⊥) → wrong i ≡ true
    unfolding wrong_at
    wrong_next i p li is ne =
        ap (λ x. not (eqb (get_or last i 0) (last_descendant ns (at i))) || not x)
        (ne_eqb (get_or next i 0) (next_of_type ns (at i)) (λ e. ne (e ∙ next_is i p li is))) ∙ or_true (not (eqb (get_or last i 0) (last_descendant ns (at i))))
      where
        or_true : (b : Bool) → b || true ≡ true
        or_true true = refl
        or_true false = refl

    -- w is the first row at which one of the lists is wrong
    module _ (oa ob : Std.Option ℕ) (fa : FirstWrong rows (LastRow rows levels) last oa) (fb : FirstWrong rows (NextRow rows types) next ob) where
      abbrev a : ℕ
      a = row_or rows oa

      abbrev b : ℕ
      b = row_or rows ob

      before : (x : ℕ) → x < a → x < b → wrong x ≡ false
      before x la lb = right_at x (omega (arith, row_within rows (LastRow rows levels) last oa fa)) (right_before rows (LastRow rows levels) last oa fa x la) (right_before rows (NextRow rows types) next ob fb x lb)

      by_place : place (wrong_at ns last next) ns ≡ place wrong (count 0 rows)
      by_place = ap (place (wrong_at ns last next)) (nodes_are f rows t types ty) ∙ placed at (λ x. refl) (wrong_at ns last next) 0 rows

      first_wrong : (w : ℕ) → w ≡ min a b → w < rows → place wrong (count 0 rows) ≡ w
      first_wrong w e lt = place_at wrong 0 rows w lt (here (leb a b) refl) (λ x le l. before x (omega arith) (omega arith))
        where
          here : (c : Bool) → leb a b ≡ c → wrong (0 + w) ≡ true
          here true q =
              let is : a ≡ 0 + w = omega (arith, leb-true a b q) in
              let (p, r, ne) = wrong_there rows (LastRow rows levels) last oa fa (omega arith) in
              ap wrong (sym is) ∙ wrong_last a p (omega arith) r ne
          here false q =
              let is : b ≡ 0 + w = omega (arith, leb-false a b q) in
              let (p, r, ne) = wrong_there rows (NextRow rows types) next ob fb (omega arith) in
              ap wrong (sym is) ∙ wrong_next b p (omega arith) r ne

      abbrev found : ℕ → Bool → Option ℕ
      found w c = elim c [ true ↦ some w | false ↦ none ]

      by_row : (w : ℕ) → place wrong (count 0 rows) ≡ w → wrong_row ns last next ≡ found w (ltb w rows)
      unfolding wrong_row
      by_row w e = ap₂ (λ p n. found p (ltb p n)) (by_place ∙ e) (length-nodes (Tables.rows f t) ∙ sym ty.rows_n)

      pub wrong_row_lem : (w : ℕ) → Some w ≡ earlier oa ob → wrong_row (nodes (Tables.rows f t)) last next ≡ some w
      wrong_row_lem w e =
          let (is, lt) = earlier_at rows (LastRow rows levels) (NextRow rows types) last next oa ob fa fb w e in
          by_row w (first_wrong w is lt) ∙ ap (found w) (lt-ltb w rows lt)

      pub no_wrong_row : None ≡ earlier oa ob → wrong_row (nodes (Tables.rows f t)) last next ≡ none
      no_wrong_row e =
          let le = earlier_none rows (LastRow rows levels) (NextRow rows types) last next oa ob fa fb e in
          by_row rows (place_none wrong 0 rows (λ x a b. before x (omega arith) (omega arith))) ∙ ap (found rows) (le-ltb rows rows (omega arith))

-- ---- the tests
module _ (f : Format) (t last next : List ℕ) (table : tests1_4 f t ≡ given (Tables.rows f t)) where
  abbrev rs : List Row
  rs = Tables.rows f t

  are : tests_index f t last next ≡ tested rs (too_short rs last next) (wrong_row (nodes rs) last next)
  are = tests_are f t last next rs table

  pub lists_short : too_short (Tables.rows f t) last next ≡ true → Says (tests_index f t last next) (Tables.rows f t) (Err IndexTooShort)
  lists_short e = are ∙ ap (λ b. tested rs b (wrong_row (nodes rs) last next)) e

  pub lists_wrong : too_short (Tables.rows f t) last next ≡ false → (w : ℕ) → wrong_row (nodes (Tables.rows f t)) last next ≡ some w
      → Says (tests_index f t last next) (Tables.rows f t) (Err (WrongIndex w))
  lists_wrong e w q = are ∙ ap₂ (tested rs) e q

  pub lists_right : too_short (Tables.rows f t) last next ≡ false → wrong_row (nodes (Tables.rows f t)) last next ≡ none
      → Says (tests_index f t last next) (Tables.rows f t) (Ok tt)
  lists_right e q = are ∙ ap₂ (tested rs) e q
