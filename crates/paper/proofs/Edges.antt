-- The numbers of each edge over bytes: what the places of an accepted judging hold, and that they agree with rows and verdict. Assumes nothing.
use Prim.Native.Nat.{ℕ, zero, suc, ◌+◌, ◌-◌, ◌≤◌, ◌<◌}
use native.Mathlib.Nat.{not-suc-le-zero, le_of_suc-le-suc}
use native.Mathlib.Omega.{arith}
use mathlib.Core.Path.{◌≡◌, sym, ◌∙◌, ap, subst, subst₂}
use mathlib.Core.Logic.{◌⊎◌, inl, inr}
use mathlib.Core.Bool.{not}
use mathlib.Core.List.{List, ◌∷◌, map}
use lib.Dec.{eqb}
use lib.ListN.{length, get_or, drop, length-map, length-drop, get_or-eq_default}
use Rattle.paper.specs.Lists.{Range, least, count}
use Rattle.paper.specs.Format.{Format, most_entries}
use Rattle.paper.specs.Tables.{rows, types}
use Rattle.paper.specs.Closeness.{Node, nodes, of_kind, closest_number}
use Rattle.paper.specs.Shapes.{Shape, entries, shape_over, numbers, kind, parent}
use Rattle.paper.specs.Partners.{EdgeNumbers, child_numbers, parent_numbers, of_edges, greatest, edge_numbers}
use Rattle.paper.specs.Verdict.{Judgement, missing, full, judgement}
use Rattle.paper.specs.Edges.{Holds, FirstNone, EdgesAgree}
use Rattle.paper.specs.Calls.{Answer, given, ◌>>=◌, Work, no_judgement, tests1_7, judge_rows, judge}
use Rattle.paper.proofs.Kept.{length-count, count_at, padded-at}
use Rattle.paper.proofs.Calls.{bind_given, bind_past, reply-given, past1_4, past1_7, passed5_6, passed1_7}
use Rattle.paper.proofs.Promises.{entries-size, judged, judged_verdict}
use Rattle.paper.proofs.Partners.{type_has_row, parent_type_has_row, full_least, children_range, parents_range}
use Rattle.paper.proofs.Partners.{first_by, missing_first, first_missing}

-- ---- the places of a figure of each edge
module _ (s : Shape) (figure : ℕ → ℕ) where
  abbrev held : List ℕ
  held = 0 ∷ map figure (drop 1 (numbers s))

  length_held : length held ≡ length s.ways - 1 + 1
  length_held = omega (arith, length-map (drop 1 (numbers s)) figure, length-drop 1 (numbers s), length-count 0 (length s.ways))

  module _ (few : length s.ways ≤ most_entries) where
    held_at : (e : ℕ) → get_or (of_edges s figure) e 0 ≡ get_or held e 0
    held_at e = padded-at most_entries most_entries held e (omega (arith, length_held))

    -- entry 0 holds 0
    pub edge_root : get_or (of_edges s figure) 0 0 ≡ 0
    edge_root = held_at 0

    -- each later entry holds its figure
    pub edge_each : (e : ℕ) → 1 ≤ e → e < length s.ways → get_or (of_edges s figure) e 0 ≡ figure e
    edge_each e lo hi = held_at e ∙ later (length s.ways) e lo hi
      where
        later : (n e : ℕ) → 1 ≤ e → e < n → get_or (0 ∷ map figure (drop 1 (count 0 n))) e 0 ≡ figure e
        later n zero lo hi = absurd (not-suc-le-zero lo)
        later zero (suc e) lo hi = absurd (not-suc-le-zero hi)
        later (suc n) (suc e) lo hi = count_at figure 1 n e (le_of_suc-le-suc hi) ∙ ap figure (omega arith)

    -- entries past the last hold 0
    pub edge_unused : (e : ℕ) → length s.ways ≤ e → get_or (of_edges s figure) e 0 ≡ 0
    edge_unused zero le = edge_root
    edge_unused (suc e) le = held_at (suc e) ∙ get_or-eq_default held 0 {n = suc e} (omega (arith, length_held))

-- ---- over bytes
-- an accepted judging refuses nothing
judge-given : (f : Format) (b sb : List ℕ) → (judge f b sb).number ≡ 0 → (w : Work) × (tests1_7 f b sb ≡ given w)
unfolding judge judge_rows
judge-given f b sb accepted =
    let a = tests1_7 f b sb in
    let (j, e, _) = reply-given no_judgement (a >>= next) (bind_past 0 a next (past1_7 0 (omega arith) f b (past1_4 f b) sb) (λ w. tt)) accepted in
    let (w, passed, _) = bind_given a next j e in
    (w, passed)
  where
    next : Work → Answer Judgement
    next w = given (judgement w.nodes w.shape)

-- A table and a shape that are judged.
module _ (f : Format) (b sb : List ℕ) (accepted : (judge f b sb).number ≡ 0) where
  abbrev pub t : List Node
  t = nodes (rows f b)

  abbrev pub s : Shape
  s = shape_over (types (rows f b)) (entries f sb)

  -- what judging says of the edges
  abbrev pub edges : EdgeNumbers
  edges = (judge f b sb).rest.edges

  abbrev w : Work
  w = (judge-given f b sb accepted).0

  abbrev passed : tests1_7 f b sb ≡ given w
  passed = (judge-given f b sb accepted).1

  edges_are : edges ≡ edge_numbers t s
  edges_are = ap (λ (j : Judgement). j.edges) (judged f b sb w passed)

  few : length s.ways ≤ most_entries
  few = omega (arith, entries-size f b sb w passed, (passed5_6 f sb (entries f sb) (passed1_7 f b sb w passed).1).3)

  -- what holds of a figure of each edge holds of the four
  holds : (e : ℕ) (at : (ℕ → ℕ) → ℕ) → ((figure : ℕ → ℕ) → get_or (of_edges s figure) e 0 ≡ at figure)
      → Holds edges e (at (λ e. least (child_numbers t s e))) (at (λ e. greatest (child_numbers t s e)))
      (at (λ e. least (parent_numbers t s e))) (at (λ e. greatest (parent_numbers t s e)))
  unfolding edge_numbers
  holds e at law = record {
    least_children_lem = ap (λ (x : EdgeNumbers). get_or x.least_children e 0) edges_are ∙ law (λ e. least (child_numbers t s e));
    greatest_children_lem = ap (λ (x : EdgeNumbers). get_or x.greatest_children e 0) edges_are ∙ law (λ e. greatest (child_numbers t s e));
    least_parents_lem = ap (λ (x : EdgeNumbers). get_or x.least_parents e 0) edges_are ∙ law (λ e. least (parent_numbers t s e));
    greatest_parents_lem = ap (λ (x : EdgeNumbers). get_or x.greatest_parents e 0) edges_are ∙ law (λ e. greatest (parent_numbers t s e));
  }

  -- Entry 0 and entries past the last hold zeros.
  pub judge-zeros : (e : ℕ) → (e ≡ 0) ⊎ (length (entries f sb) ≤ e) → Holds edges e 0 0 0 0
  judge-zeros e (inl z) = holds e (λ figure. 0) (λ figure. ap (λ e. get_or (of_edges s figure) e 0) z ∙ edge_root s figure few)
  judge-zeros e (inr le) = holds e (λ figure. 0) (λ figure. edge_unused s figure few e (omega (arith, entries-size f b sb w passed)))

  module _ (e : ℕ) (later : 1 ≤ e) (inside : e < length (entries f sb)) where
    within : e < length s.ways
    within = omega (arith, entries-size f b sb w passed)

    -- Each later entry holds its least and its greatest number of children and of parents.
    pub judge_numbers : Holds edges e (least (child_numbers t s e)) (greatest (child_numbers t s e))
        (least (parent_numbers t s e)) (greatest (parent_numbers t s e))
    judge_numbers = holds e (λ figure. figure e) (λ figure. edge_each s figure few e later within)

    -- THE NUMBERS OF CHILDREN: that of every row of the parent entry's type lies between the two, and both are reached.
    pub judge_children : Range (closest_number t (kind s e)) (of_kind t (kind s (parent s e)))
        (get_or edges.least_children e 0) (get_or edges.greatest_children e 0)
    judge_children =
        let (r, h) = parent_type_has_row f b sb w passed e within in
        let n = judge_numbers in
        subst₂ (Range (closest_number t (kind s e)) (of_kind t (kind s (parent s e)))) (sym n.least_children_lem) (sym n.greatest_children_lem)
        (children_range t s e r h)

    -- THE NUMBERS OF PARENTS: that of every row of the entry's type lies between the two, and both are reached.
    pub judge_parents : Range (closest_number t (kind s (parent s e))) (of_kind t (kind s e))
        (get_or edges.least_parents e 0) (get_or edges.greatest_parents e 0)
    judge_parents =
        let (r, h) = type_has_row f b sb w passed e within in
        let n = judge_numbers in
        subst₂ (Range (closest_number t (kind s (parent s e))) (of_kind t (kind s e))) (sym n.least_parents_lem) (sym n.greatest_parents_lem)
        (parents_range t s e r h)

    -- AN EDGE IS FULL exactly when its least number of children is not 0.
    pub judge_full : full t s e ≡ not (eqb (get_or edges.least_children e 0) 0)
    judge_full =
        let (r, h) = parent_type_has_row f b sb w passed e within in
        full_least t s e r h ∙ ap (λ n. not (eqb n 0)) (sym judge_numbers.least_children_lem)

  -- ---- verdict 1
  abbrev held_parents : ℕ → ℕ
  held_parents e = get_or edges.least_parents e 0

  held_least : (e : ℕ) → 1 ≤ e → e < length (entries f sb) → held_parents e ≡ least (parent_numbers t s e)
  held_least e later inside = (judge_numbers e later inside).least_parents_lem

  -- VERDICT 1 NAMES THE FIRST ENTRY whose least number of parents is 0.
  pub judge_missing : (e p : ℕ) → (judge f b sb).rest.verdict ≡ missing e p → FirstNone held_parents (length (entries f sb)) e
  judge_missing e p v =
      let first = missing_first t s (type_has_row f b sb w passed) e p (judged_verdict f b sb w passed v) in
      first_by (λ e. least (parent_numbers t s e)) held_parents (length (entries f sb)) e (λ c lo hi. sym (held_least c lo hi))
      (subst (λ n. FirstNone (λ e. least (parent_numbers t s e)) n e) (entries-size f b sb w passed) first)

  -- Where there is such an entry, the verdict is 1 and names it.
  pub judge-first : (e : ℕ) → FirstNone held_parents (length (entries f sb)) e → (p : ℕ) × ((judge f b sb).rest.verdict ≡ missing e p)
  judge-first e first =
      let same = first_by held_parents (λ e. least (parent_numbers t s e)) (length (entries f sb)) e held_least first in
      let (p, v) = first_missing t s (type_has_row f b sb w passed) e
      (subst (λ n. FirstNone (λ e. least (parent_numbers t s e)) n e) (sym (entries-size f b sb w passed)) same) in
      (p, ap (λ (j : Judgement). j.verdict) (judged f b sb w passed) ∙ v)

  -- ALL OF IT: the numbers agree with rows and verdict.
  pub judge_agrees : EdgesAgree f b sb edges
  judge_agrees = record {
    zeros = judge-zeros;
    children_range = judge_children;
    parents_range = judge_parents;
    full_least = judge_full;
    missing_first = λ e. (λ (p, v). judge_missing e p v, judge-first e);
  }
