-- Where no pair of entries would earn a 2 nothing is made up, and the row that verdict 1 names is not shown, over bytes.
-- Assumes nothing.
use Prim.Native.Nat.{ℕ, suc, ◌+◌, ◌*◌, ◌/◌, ◌%◌, ◌≤◌, ◌<◌}
use native.Mathlib.Nat.{not-suc-le-zero}
use native.Mathlib.Omega.{arith}
use mathlib.Core.Path.{◌≡◌, refl, sym, ◌∙◌, ap, subst₂}
use mathlib.Core.Logic.{inl, inr}
use mathlib.Core.Bool.{true}
use mathlib.Core.List.{List, [], ◌∷◌, map}
use lib.Dec.{eqb}
use lib.ListN.{length, get_or, take, length-map}
use borrow.Author.Tests.{eqb-true}
use Rattle.paper.specs.Lists.{Has, last_or}
use Rattle.paper.specs.Format.{Format, row_bytes}
use Rattle.paper.specs.Tables.{rows, dewey}
use Rattle.paper.specs.Closeness.{Node, nodes_from, closest}
use Rattle.paper.specs.Shapes.{Shape, kind, way, fork, shape_over}
use Rattle.paper.specs.NewTable.{entry_unit}
use Rattle.paper.specs.Verdict.{Judgement, missing, verdict, none_apart}
use Rattle.paper.specs.Calls.{given, Work, Reshaping, tests1_7, judge, reshape}
use Rattle.paper.specs.Links.{new_nodes, source_row, source_pairs}
use Rattle.paper.specs.Faithful.{Faithful}
use Rattle.paper.specs.MadeUp.{Under, fork_entry, NothingMadeUp, unshown}
use Rattle.paper.proofs.Lists.{none_any}
use Rattle.paper.proofs.Agree.{shared-sym}
use Rattle.paper.proofs.Closeness.{closest_near, near_closest, near_sym}
use Rattle.paper.proofs.Shapes.{Ways}
use Rattle.paper.proofs.Verdict.{none_apart_lem, missing_alone, alone_of_lem}
use Rattle.paper.proofs.Lines.{row_of_lem, line_entry}
use Rattle.paper.proofs.Demand3.{take_same}
use Rattle.paper.proofs.Links.{any_order, near_places}
use Rattle.paper.proofs.Promises as Promises
use Rattle.paper.proofs.Promises.{source_table, ways, few, numbered, nothing_made_up, named-row-unshown, ls, written_rows, judged, judged_verdict}
use Rattle.paper.proofs.Promises.{source_length, Wrote, reshape_writes, new_left_lem, sources_left_lem, reshape_faithful}

-- ---- turned round
-- the fork of two entries
fork_sym : (s : Shape) (w : Ways s) (e g : ℕ) → e < length s.ways → g < length s.ways → fork s e g ≡ fork s g e
fork_sym s w e g le lg = ap (last_or 0) (take_same s w e g le lg ∙ ap (λ n. take n (way s g)) (shared-sym (way s e) (way s g)))

-- closest rows
closest-sym : (t : List Node) (r q : Node) → Has r t → Has q t → closest t r q ≡ true → closest t q r ≡ true
closest-sym t r q hr hq c =
    near_closest t q.kind r.kind q r (hq, refl) (hr, refl) (near_sym t r.kind q.kind r q (closest_near t r.kind q.kind r q refl refl c))

-- ---- lines by their places
-- each place of a source list has a line, where there are lines enough
place_line : (g : ℕ → ℕ) (i : ℕ) (xs : List ℕ) (ds : List (List ℕ)) (x : ℕ) → Has x xs → length xs ≤ length ds
    → (l : Node) × Has l (nodes_from i (map g xs) ds) × (l.kind ≡ g x) × (j : ℕ) × (l.place ≡ i + j) × (get_or xs j 0 ≡ x)
place_line g i [] ds x h le = absurd h
place_line g i (y ∷ xs) [] x h le = absurd (not-suc-le-zero le)
place_line g i (y ∷ xs) (d ∷ ds) x (inl e) le = (record { place = i; kind = g y; dewey = d }, inl refl, ap g (sym e), 0, (omega arith), sym e)
place_line g i (y ∷ xs) (d ∷ ds) x (inr h) le =
    let (l, hl, k, j, p, q) = place_line g (suc i) xs ds x h (omega arith) in (l, inr hl, k, suc j, p ∙ (omega arith), q)

-- ---- any faithful new table
module _ (f : Format) (b sb : List ℕ) (w : Work) (passed : tests1_7 f b sb ≡ given w) (new sources : List ℕ)
    (fa : Faithful (Promises.t f b sb w passed) (Promises.s f b sb w passed) (new_nodes f new sources) (source_row sources)) where
  abbrev t : List Node
  t = Promises.t f b sb w passed

  abbrev s : Shape
  s = Promises.s f b sb w passed

  -- lines of two different entries that hang under, or are, one line of their fork entry have closest source rows
  abbrev Closest : ℕ → ℕ → Type 0
  Closest e g = (e ≡ g → ⊥) → (x y z : Node) → Has x (new_nodes f new sources) → Has y (new_nodes f new sources) → Has z (new_nodes f new sources)
      → x.kind ≡ e → y.kind ≡ g → z.kind ≡ fork s e g → Under z x → Under z y
      → (r q : Node) → Has r t → Has q t → r.place ≡ source_row sources x → q.place ≡ source_row sources y → closest t r q ≡ true

  entry_in : (x : Node) → Has x (new_nodes f new sources) → x.kind < length s.ways
  entry_in = line_entry t (source_table f b sb w passed).one_place s (ways f b sb w passed) (new_nodes f new sources) (source_row sources) fa

  -- the second answer speaks of one entry before another, and so of any two
  any_two : none_apart t s ≡ true → (e g : ℕ) → e < length s.ways → g < length s.ways → Closest e g
  any_two ok = any_order Closest (length s.ways) before flip (λ e le ne. absurd (ne refl))
    where
      before : (e g : ℕ) → e < g → g < length s.ways → Closest e g
      before e g eg lg ne = nothing_made_up f b sb w passed new sources fa e g (omega arith) lg ne (none_apart_lem s t ok e g eg lg)

      flip : (e g : ℕ) → Closest e g → Closest g e
      flip e g c ne x y z hx hy hz kx ky kz ux uy r q hr hq sr sq =
          let turned = fork_sym s (ways f b sb w passed) g e (omega (arith, entry_in x hx)) (omega (arith, entry_in y hy)) in
          closest-sym t q r hq hr (c (λ k. ne (sym k)) y x z hy hx hz ky kx (kz ∙ turned) uy ux q r hq hr sq sr)

  -- NOTHING MADE UP. Where the second answer is yes, any two lines of different entries that hang under, or are, one line of
  -- their fork entry have closest source rows, whatever the verdict is.
  pub faithful_none_made_up : none_apart t s ≡ true → NothingMadeUp f b sb new sources
  unfolding NothingMadeUp fork_entry source_pairs shape_over
  faithful_none_made_up ok x y z hx hy hz ne kz ux uy =
      let shows = row_of_lem t (source_table f b sb w passed).one_place s (ways f b sb w passed) (new_nodes f new sources) (source_row sources) fa in
      let (r, (ir, pr)) = shows x hx in
      let (q, (iq, pq)) = shows y hy in
      let c = any_two ok x.kind y.kind (entry_in x hx) (entry_in y hy) ne x y z hx hy hz refl refl kz ux uy r q ir.0 iq.0 pr pq in
      let (j, k) : ℕ × ℕ = (kind s x.kind, kind s y.kind) in
      near_places t j k r q (source_row sources x) (source_row sources y) ir iq pr pq (closest_near t j k r q ir.1 iq.1 c)

  -- The row that verdict 1 names stands in no line of the entry that it names, where each place of the source list has a line.
  pub faithful_unshown : length sources ≤ length (rows f new) → (e p : ℕ) → verdict t s ≡ missing e p → unshown e p sources ≡ true
  unfolding unshown new_nodes source_row
  faithful_unshown whole e p v = none_any (eqb (e * entry_unit + p)) sources other
    where
      small : p < entry_unit
      small =
          let (pos, le, r, hr, pr) = missing_alone s t e p v in
          omega (arith, few f b sb w passed, numbered f b sb w passed r (alone_of_lem s t e r hr).0.0)

      other : (x : ℕ) → Has x sources → eqb (e * entry_unit + p) x ≡ true → ⊥
      other x hx q =
          let (l, hl, k, j, pl, at) = place_line (λ x. x / entry_unit) 0 sources (map dewey (rows f new)) x hx (omega (arith, length-map (rows f new) dewey)) in
          let named : e * entry_unit + p ≡ x = eqb-true (e * entry_unit + p) x q in
          let own : get_or sources l.place 0 ≡ x = ap (λ i. get_or sources i 0) (omega arith) ∙ at in
          let row : source_row sources l ≡ p = ap (λ n. n % entry_unit) own ∙ (omega (arith, small)) in
          named-row-unshown f b sb w passed new sources fa e p v l hl (k ∙ (omega (arith, small))) row

-- ---- a reshape
module _ (f : Format) (b sb table sources : List ℕ) where
  abbrev pub r : Reshaping
  r = reshape f b sb table sources

  -- Where a reshape is accepted and the second answer is yes, nothing is made up in the lent bytes and places at exit.
  pub reshape_none_made_up : r.reply.number ≡ 0 → (judge f b sb).rest.none_apart ≡ true
      → NothingMadeUp f b sb (take (r.reply.rest * row_bytes f) r.table) (take r.reply.rest r.sources)
  reshape_none_made_up accepted ok =
      let o = reshape_writes f b sb table sources accepted in
      faithful_none_made_up f b sb o.work o.passed (take (r.reply.rest * row_bytes f) r.table) (take r.reply.rest r.sources)
      (reshape_faithful f b sb table sources o) (ap (λ (j : Judgement). j.none_apart) (sym (judged f b sb o.work o.passed)) ∙ ok)

  -- each place that is written has a line
  whole : (o : Wrote f b sb table sources)
      → length (take r.reply.rest r.sources) ≤ length (rows f (take (r.reply.rest * row_bytes f) r.table))
  whole o =
      subst₂ (λ new places. length places ≤ length (rows f new)) (sym (new_left_lem f b sb table sources o)) (sym (sources_left_lem f b sb table sources o))
      (omega (arith, written_rows f b sb o.work o.passed (omega (arith, o.room)), source_length (ls f b sb o.work o.passed)))

  -- Where it is accepted and verdict 1 names an entry and a row, no place of the source list at exit is of that entry and row.
  pub reshape-unshown : r.reply.number ≡ 0 → (e p : ℕ) → (judge f b sb).rest.verdict ≡ missing e p
      → unshown e p (take r.reply.rest r.sources) ≡ true
  reshape-unshown accepted e p v =
      let o = reshape_writes f b sb table sources accepted in
      faithful_unshown f b sb o.work o.passed (take (r.reply.rest * row_bytes f) r.table) (take r.reply.rest r.sources)
      (reshape_faithful f b sb table sources o) (whole o) e p (judged_verdict f b sb o.work o.passed v)
