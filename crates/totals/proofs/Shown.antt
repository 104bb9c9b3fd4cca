-- The shown rows of an entry are rows of its type, and the source list tells them. Assumes nothing.
use Prim.Native.Nat.{ℕ, suc, ◌+◌, ◌*◌, ◌≤◌, ◌<◌}
use native.Mathlib.Omega.{arith}
use mathlib.Core.Path.{◌≡◌, refl, sym, ◌∙◌, ap, subst}
use mathlib.Core.Logic.{inl, inr}
use mathlib.Core.Bool.{Bool, true}
use mathlib.Core.List.{List, [], ◌∷◌, map}
use lib.Dec.{eqb}
use lib.ListN.{length, length-map}
use borrow.Author.Tests.{eqb-true, eq-eqb}
use Rattle.paper.specs.Lists.{Has, keep, any}
use Rattle.paper.specs.Format.{Format, most_rows}
use Rattle.paper.specs.Tables.{Row, rows, dewey, row_types, types, type_number}
use Rattle.paper.specs.Closeness.{Node, nodes_from, nodes, of_kind}
use Rattle.paper.specs.Shapes.{entries, shape_over, kind}
use Rattle.paper.specs.NewTable.{Line, lines, entry_unit, source_list}
use Rattle.paper.specs.Figures.{entry_lines, appears, different_rows}
use Rattle.paper.specs.Calls.{Work}
use Rattle.totals.specs.Sums.{sum_of}
use Rattle.totals.specs.Tape.{Tape, value_of, type_rows, shown_rows, sum_of_type}
use Rattle.totals.specs.Rows.{is_shown}
use Rattle.totals.proofs.Lists.{same_test, keep-has, has-keep, any_has, has_any, keep-keep, length-keep, any_map}
use Rattle.totals.proofs.Lines.{line_rows}
use Rattle.totals.proofs.Passed.{Passed}

-- ---- rows are numbered from 0, each once
abbrev Numbered : ℕ → List Node → Type 0
Numbered i [] = Unit
Numbered i (x ∷ t) = (x.place ≡ i) × Numbered (suc i) t

nodes_from_numbered : (i : ℕ) (ks : List ℕ) (ds : List (List ℕ)) → Numbered i (nodes_from i ks ds)
nodes_from_numbered i [] ds = tt
nodes_from_numbered i (k ∷ ks) [] = tt
nodes_from_numbered i (k ∷ ks) (d ∷ ds) = (refl, nodes_from_numbered (suc i) ks ds)

nodes_from_few : (i : ℕ) (ks : List ℕ) (ds : List (List ℕ)) → length (nodes_from i ks ds) ≤ length ds
nodes_from_few i [] ds = omega arith
nodes_from_few i (k ∷ ks) [] = omega arith
nodes_from_few i (k ∷ ks) (d ∷ ds) = omega (arith, nodes_from_few (suc i) ks ds)

place_bounds : (i : ℕ) (t : List Node) → Numbered i t → (x : Node) → Has x t → (i ≤ x.place) × (x.place < i + length t)
place_bounds i [] o x h = absurd h
place_bounds i (y ∷ t) o x (inl e) = let q = ap (λ (z : Node). z.place) e in (omega (arith, o.0), omega (arith, o.0))
place_bounds i (y ∷ t) o x (inr h) = let r = place_bounds (suc i) t o.1 x h in (omega (arith, r.0), omega (arith, r.1))

same_place : (i : ℕ) (t : List Node) → Numbered i t → (x y : Node) → Has x t → Has y t → x.place ≡ y.place → x ≡ y
same_place i [] o x y h k e = absurd h
same_place i (z ∷ t) o x y (inl h) (inl k) e = h ∙ sym k
same_place i (z ∷ t) o x y (inl h) (inr k) e =
    let w : ⊥ = omega (arith, ap (λ (z : Node). z.place) h, o.0, (place_bounds (suc i) t o.1 y k).0) in absurd w
same_place i (z ∷ t) o x y (inr h) (inl k) e =
    let w : ⊥ = omega (arith, ap (λ (z : Node). z.place) k, o.0, (place_bounds (suc i) t o.1 x h).0) in absurd w
same_place i (z ∷ t) o x y (inr h) (inr k) e = same_place (suc i) t o.1 x y h k e

module _ (rs : List Row) where
  nodes_numbered : Numbered 0 (nodes rs)
  unfolding nodes
  nodes_numbered = nodes_from_numbered 0 (map (type_number (types rs)) (row_types rs)) (map dewey rs)

  nodes_few : length (nodes rs) ≤ length rs
  unfolding nodes
  nodes_few = omega (arith, nodes_from_few 0 (map (type_number (types rs)) (row_types rs)) (map dewey rs), length-map rs dewey)

  -- a row's place is below the number of rows
  pub row-place : (r : Node) → Has r (nodes rs) → r.place < length rs
  row-place r h = omega (arith, (place_bounds 0 (nodes rs) nodes_numbered r h).1, nodes_few)

  -- rows at one place are one row
  pub one-row : (x y : Node) → Has x (nodes rs) → Has y (nodes rs) → x.place ≡ y.place → x ≡ y
  one-row = same_place 0 (nodes rs) nodes_numbered

-- ---- a row that appears in the lines of an entry is the source row of one of them
shown_by : (ls : List Line) (e : ℕ) (r : Node) → appears (entry_lines ls e) r ≡ true
    → (l : Line) × Has l ls × (l.entry ≡ e) × (l.source.place ≡ r.place)
unfolding appears entry_lines
shown_by ls e r h =
    let (l, hl, q) = any_has (λ (l : Line). eqb l.source.place r.place) (entry_lines ls e) h in
    let (i, k) = keep-has (λ (l : Line). eqb l.entry e) l ls hl in
    (l, i, eqb-true l.entry e k, eqb-true l.source.place r.place q)

by-shown : (ls : List Line) (e : ℕ) (r : Node) (l : Line) → Has l ls → l.entry ≡ e → l.source.place ≡ r.place
    → appears (entry_lines ls e) r ≡ true
unfolding appears entry_lines
by-shown ls e r l h k p =
    has_any (λ (l : Line). eqb l.source.place r.place) l (entry_lines ls e)
    (has-keep (λ (l : Line). eqb l.entry e) l ls h (eq-eqb l.entry e k)) (eq-eqb l.source.place r.place p)

-- ---- What is worked on past the tests 1 to 7, and its lines.
module _ (f : Format) (b sb : List ℕ) (w : Work) (past : Passed f b sb w) where
  row_in : (r : Node) → Has r w.nodes → Has r (nodes w.rows)
  row_in r h = subst (λ t. Has r t) past.nodes_are h

  -- a place is below 1,024, and so below the unit of an entry in the source list
  pub place_few : (r : Node) → Has r w.nodes → r.place < most_rows
  place_few r h = omega (arith, row-place w.rows r (row_in r h), past.few_rows)

  module _ (e : ℕ) where
    pub type_rows_few : length (type_rows w e) ≤ most_rows
    unfolding type_rows of_kind
    type_rows_few =
        omega (
          arith,
          length-keep (λ (r : Node). eqb r.kind (kind w.shape e)) w.nodes,
          ap length past.nodes_are,
          nodes_few w.rows,
          past.few_rows,
        )

    module _ (ls : List Line) (are : ls ≡ lines w.nodes w.shape f.levels) where
      line_row_lem : (l : Line) → Has l ls → Has l.source w.nodes × (l.source.kind ≡ kind w.shape l.entry)
      line_row_lem l h = line_rows w.nodes w.shape f.levels l (subst (λ z. Has l z) are h)

      -- The shown rows are those of the entry's type that appear in its lines.
      pub shown_of_type : shown_rows w e ls ≡ keep (appears (entry_lines ls e)) (type_rows w e)
      unfolding shown_rows different_rows type_rows of_kind
      shown_of_type =
          keep-keep (appears (entry_lines ls e)) (λ (r : Node). eqb r.kind (kind w.shape e)) w.nodes (λ r h shown.
          let (l, hl, k, p) = shown_by ls e r shown in
          let (i, o) = line_row_lem l hl in
          let one : l.source ≡ r = one-row w.rows l.source r (row_in l.source i) (row_in r h) p in
          eq-eqb r.kind (kind w.shape e) (sym (ap (λ (x : Node). x.kind) one) ∙ o ∙ ap (kind w.shape) k))

      -- A row appears in the lines of the entry where the source list names it for that entry.
      pub appears-listed : (r : Node) → Has r w.nodes → appears (entry_lines ls e) r ≡ is_shown e (source_list ls) r.place
      unfolding source_list
      appears-listed r h =
          let number : Line → ℕ = λ l. l.entry * entry_unit + l.source.place in
          let named : Line → Bool = λ l. eqb (e * entry_unit + r.place) (number l) in
          same_test (appears (entry_lines ls e) r) (any named ls)
          (λ shown.
          let (l, hl, k, p) = shown_by ls e r shown in
          has_any named l ls hl (eq-eqb (e * entry_unit + r.place) (number l) (omega arith)))
          (λ told.
          let (l, hl, q) = any_has named ls told in
          let same : e * entry_unit + r.place ≡ l.entry * entry_unit + l.source.place = eqb-true (e * entry_unit + r.place) (number l) q in
          let below = place_few r h in
          let below-line = place_few l.source (line_row_lem l hl).0 in
          by-shown ls e r l hl (omega arith) (omega arith))
          ∙ sym (any_map (eqb (e * entry_unit + r.place)) number ls)

-- The sum over all rows of the type is the sum over these rows.
pub sum_of_type_lem : (t : Tape) (w : Work) → Passed t.format t.table t.shape w
    → sum_of_type t ≡ sum_of (value_of w.rows) (type_rows w t.entry)
unfolding sum_of_type type_rows shape_over
sum_of_type_lem t w past =
    let shape = shape_over (types (rows t.format t.table)) (entries t.format t.shape) in
    sym (ap (λ s. sum_of (value_of w.rows) (of_kind w.nodes (kind s t.entry))) past.shape_is
    ∙ ap (λ ns. sum_of (value_of w.rows) (of_kind ns (kind shape t.entry))) past.nodes_are
    ∙ ap (λ rs. sum_of (value_of rs) (of_kind (nodes rs) (kind shape t.entry))) past.rows_are)
