-- How many lines stand directly beneath a line: of each child entry as many as its source row has closest rows of that entry's type, and so
-- between the least and the greatest number of children that judging says, over bytes too. Assumes nothing.
use Prim.Native.Nat.{ℕ, zero, suc, ◌+◌, ◌*◌, ◌%◌, ◌≤◌, ◌<◌, pred}
use native.Mathlib.Nat.{eq-or-lt_of_le}
use native.Mathlib.Omega.{arith}
use mathlib.Core.Path.{◌≡◌, refl, sym, ◌∙◌, ap, subst, subst₂}
use mathlib.Core.Logic.{inl, inr, ⊎_elim}
use mathlib.Core.Bool.{Bool, true, false, ◌&&◌, true≢false}
use mathlib.Core.List.{List, [], ◌∷◌, map}
use lib.Dec.{eqb}
use lib.ListN.{length, get_or, take, length-append, length-map}
use borrow.Author.Tests.{eqb-true, eqb-false, eq-eqb}
use Rattle.paper.specs.Lists.{Has, keep, joined, join_map, count, same, up}
use Rattle.paper.specs.Format.{Format, row_bytes}
use Rattle.paper.specs.Tables.{rows}
use Rattle.paper.specs.Closeness.{Node, closest_of, closest_number}
use Rattle.paper.specs.Shapes.{Shape, kind, way, parent, children}
use Rattle.paper.specs.NewTable.{Line, beneath, tops, lines, new_table, source_list, entry_unit}
use Rattle.paper.specs.Calls.{given, ◌>>=◌, reply, no_judgement, Work, Reshaping, tests1_7, judge_rows, judge, reshape}
use Rattle.paper.specs.Verdict.{judgement}
use Rattle.paper.specs.Links.{new_nodes, source_row}
use Rattle.paper.specs.Edges.{ChildrenShown, ChildrenBetween}
use Rattle.paper.specs.Faithful.{Faithful}
use Rattle.paper.proofs.Lists.{keep-has, map-has, joined_map, count-has}
use Rattle.paper.proofs.Kept.{put_if, keep-none, keep-map}
use Rattle.paper.proofs.Closeness.{of_kind_lem}
use Rattle.paper.proofs.Shapes.{Ways}
use Rattle.paper.proofs.Verdict.{In, child_parent, child_pos, listed_child}
use Rattle.paper.proofs.Trees.{Stands, grown, grown_stands}
use Rattle.paper.proofs.Standing.{both_kept, all_kept_lem, stands_number}
use Rattle.paper.proofs.Lines.{row_of_lem, line_entry}
use Rattle.paper.proofs.Written.{line_nodes, line_fits}
use Rattle.paper.proofs.Reread.{nodes_new}
use Rattle.paper.proofs.Promises as Promises
use Rattle.paper.proofs.Promises.{source_table, ways, entries-size, some-entry, levels, few, numbered}
use Rattle.paper.proofs.Promises.{Wrote, reshape_writes, new_left_lem, sources_left_lem, reshape_faithful}
use Rattle.paper.proofs.Edges.{judge_children}

-- ---- the kids of one child entry
-- in groups by entry, those of one entry are the rows of its group
module _ {B : Type 0} (found : ℕ → List B) (c : ℕ) where
  abbrev group : ℕ → List (ℕ × B)
  group e = map (λ r. (e, r)) (found e)

  abbrev own : ℕ × B → Bool
  own y = eqb y.0 c

  group-entry : (e : ℕ) (y : ℕ × B) → Has y (group e) → y.0 ≡ e
  group-entry e y h = let (r, _, q) = map-has {B = ℕ × B} (λ r. (e, r)) y (found e) h in ap (λ (y : ℕ × B). y.0) q

  group_own : length (keep own (group c)) ≡ length (found c)
  group_own = all_kept_lem own (group c) (λ y h. eq-eqb y.0 c (group-entry c y h)) ∙ length-map {B = ℕ × B} (found c) (λ r. (c, r))

  group_other : (e : ℕ) → (e ≡ c → ⊥) → length (keep own (group e)) ≡ 0
  group_other e ne = keep-none own (group e) (λ y h q. ne (sym (group-entry e y h) ∙ eqb-true y.0 c q))

  groups_none : (es : List ℕ) → (Has c es → ⊥) → length (keep own (join_map group es)) ≡ 0
  groups_none [] never = refl
  groups_none (e ∷ es) never =
      omega (arith, both_kept own (group e) (join_map group es), group_other e (λ q. never (inl (sym q))), groups_none es (λ h. never (inr h)))

  -- each entry has one group
  groups_number : (listed : ℕ → Bool) (i n : ℕ) → i ≤ c → c < i + n → listed c ≡ true
      → length (keep own (join_map group (keep listed (count i n)))) ≡ length (found c)
  groups_number listed i zero le lt is = let z : ⊥ = omega arith in absurd z
  groups_number listed i (suc n) le lt is = go (eqb i c) refl (listed i) refl (λ l. groups_number listed (suc i) n l (omega arith) is)
    where
      later : List ℕ
      later = keep listed (count (suc i) n)

      beyond : (i ≡ c → ⊥) → suc i ≤ c
      beyond ne = ⊎_elim (λ q. absurd (ne q)) (λ l. l) (eq-or-lt_of_le le)

      past : Has c later → i ≡ c → ⊥
      past h q = omega (arith, (count-has (suc i) n c (keep-has listed c (count (suc i) n) h).0).0)

      go : (one : Bool) → eqb i c ≡ one → (b : Bool) → listed i ≡ b → (suc i ≤ c → length (keep own (join_map group later)) ≡ length (found c))
          → length (keep own (join_map group (put_if b i later))) ≡ length (found c)
      go true q true l ih =
          let ic = eqb-true i c q in
          both_kept own (group i) (join_map group later)
          ∙ (omega (arith, ap (λ e. length (keep own (group e))) ic, group_own, groups_none later (λ h. past h ic)))
      go true q false l ih = absurd (true≢false (sym is ∙ ap listed (sym (eqb-true i c q)) ∙ l))
      go false q true l ih =
          let ne = eqb-false i c q in
          both_kept own (group i) (join_map group later) ∙ (omega (arith, group_other i ne, ih (beyond ne)))
      go false q false l ih = ih (beyond (eqb-false i c q))

-- ---- lines
-- the lines of entry c directly beneath line l
abbrev pub child_lines : List Line → Line → ℕ → List Line
child_lines ls l c = keep (λ (m : Line). same (up m.dewey) l.dewey && eqb m.entry c) ls

abbrev Item : Type 0
Item = ℕ × Node

-- Beneath an entry and a row, of each child entry as many as the row has closest rows of that entry's type.
pub beneath_number : (t : List Node) (s : Shape) (x : Item) (c : ℕ) → Has c (children s x.0)
    → length (keep (λ (y : Item). eqb y.0 c) (joined (beneath t s x))) ≡ closest_number t (kind s c) x.1
unfolding beneath closest_number
beneath_number t s x c h =
    let found : ℕ → List Node = λ c. closest_of t x.1 (kind s c) in
    let listed : ℕ → Bool = λ c. same (up (way s c)) (way s x.0) in
    let (i, is) = keep-has listed c (count 0 (length s.ways)) h in
    ap (λ l. length (keep (λ (y : Item). eqb y.0 c) l)) (joined_map (group found c) (children s x.0))
    ∙ groups_number found c listed 0 (length s.ways) (omega arith) (count-has 0 (length s.ways) c i).1 is

module _ (t : List Node) (place : (x y : Node) → Has x t → Has y t → x.place ≡ y.place → x ≡ y) (s : Shape) (w : Ways s)
    (some : 0 < length s.ways) (n : ℕ) (deep : (e : ℕ) → e < length s.ways → length (way s e) ≤ n)
    (l : Line) (there : Has l (lines t s n)) (c : ℕ) (child : Has c (children s l.entry)) where
  abbrev ls : List Line
  ls = lines t s n

  -- a level lies beneath the line
  shallow : length l.dewey ≤ pred n
  shallow =
      let (inside, way-child) = listed_child s w l.entry c child in
      let (_, _, level) = line_fits t place s w some n deep l there in
      omega (arith, level, deep c inside, ap length way-child, length-append (way s l.entry) (c ∷ []))

  -- DIRECTLY BENEATH A LINE stand of each child entry as many lines as its source row has closest rows of that entry's type.
  pub lines_number : length (child_lines ls l c) ≡ closest_number t (kind s c) l.source
  unfolding lines
  lines_number =
      let all = grown (beneath t s) (pred n) (tops t s) in
      let to_line : Item × List ℕ → Line = λ x. record { entry = x.0.0; source = x.0.1; dewey = x.1 } in
      let test : Line → Bool = λ m. same (up m.dewey) l.dewey && eqb m.entry c in
      let (x, hx, e) = map-has to_line l all there in
      let stands = subst (λ (l : Line). Stands (beneath t s) (pred n) (tops t s) l.dewey (l.entry, l.source)) (sym e)
      (grown_stands (beneath t s) (pred n) (tops t s) x.0 x.1 hx) in
      ap length (keep-map test to_line all) ∙ length-map (keep (λ x. test (to_line x)) all) to_line
      ∙ stands_number (beneath t s) (λ (y : Item). eqb y.0 c) (pred n) (tops t s) l.dewey (l.entry, l.source) shallow stands
      ∙ beneath_number t s (l.entry, l.source) c child

-- ---- over bytes
-- as many nodes as lines pass a test by entry and number
nodes_kept : (test : ℕ → List ℕ → Bool) (i : ℕ) (ls : List Line)
    → length (keep (λ (y : Node). test y.kind y.dewey) (line_nodes i ls)) ≡ length (keep (λ (l : Line). test l.entry l.dewey) ls)
nodes_kept test i [] = refl
nodes_kept test i (l ∷ ls) = go (test l.entry l.dewey) (nodes_kept test (suc i) ls)
  where
    nodes_left : List Node
    nodes_left = keep (λ (y : Node). test y.kind y.dewey) (line_nodes (suc i) ls)

    lines_left : List Line
    lines_left = keep (λ (l : Line). test l.entry l.dewey) ls

    go : (b : Bool) → length nodes_left ≡ length lines_left
        → length (put_if b (record { place = i; kind = l.entry; dewey = l.dewey }) nodes_left) ≡ length (put_if b l lines_left)
    go true ih = ap suc ih
    go false ih = ih

-- the line of a node, and its place in the source list
node_line : (i : ℕ) (ls : List Line) (x : Node) → Has x (line_nodes i ls)
    → (l : Line) × Has l ls × (x.kind ≡ l.entry) × (x.dewey ≡ l.dewey)
    × (j : ℕ) × (x.place ≡ i + j) × (get_or (source_list ls) j 0 ≡ l.entry * entry_unit + l.source.place)
unfolding source_list
node_line i [] x h = absurd h
node_line i (l ∷ ls) x (inl e) =
    (l, inl refl, ap (λ (x : Node). x.kind) e, ap (λ (x : Node). x.dewey) e, 0, ap (λ (x : Node). x.place) e ∙ (omega arith), refl)
node_line i (l ∷ ls) x (inr h) =
    let (m, hm, k, d, j, p, q) = node_line (suc i) ls x h in
    (m, inr hm, k, d, suc j, p ∙ (omega arith), q)

-- A table and a shape past the tests 1 to 7.
module _ (f : Format) (b sb : List ℕ) (w : Work) (passed : tests1_7 f b sb ≡ given w) where
  abbrev t : List Node
  t = Promises.t f b sb w passed

  abbrev s : Shape
  s = Promises.s f b sb w passed

  abbrev written : List Line
  written = Promises.ls f b sb w passed

  abbrev one : (x y : Node) → Has x t → Has y t → x.place ≡ y.place → x ≡ y
  one = (source_table f b sb w passed).one_place

  abbrev ws : Ways s
  ws = ways f b sb w passed

  abbrev some : 0 < length s.ways
  some = some-entry f b sb w passed

  deep : (e : ℕ) → e < length s.ways → length (way s e) ≤ f.levels
  deep e le = (levels f b sb w passed e le).1

  -- the written bytes and places read as lines
  read : length written < entry_unit → new_nodes f (new_table f s (rows f b) written) (source_list written) ≡ line_nodes 0 written
  read = nodes_new f b s ws some one (numbered f b sb w passed) (omega (arith, few f b sb w passed)) (levels f b sb w passed)

  written_children : length written < entry_unit → ChildrenShown f b sb (new_table f s (rows f b) written) (source_list written)
  unfolding source_row
  written_children room x hx =
      let (l, hl, k, d, j, p, listed) = node_line 0 written x (subst (λ new. Has x new) (read room) hx) in
      let (_, row, _) = line_fits t one s ws some f.levels deep l hl in
      let place : x.place ≡ j = omega (arith, p) in
      let small : l.source.place < entry_unit = omega (arith, few f b sb w passed, numbered f b sb w passed l.source row.0) in
      let source : get_or (source_list written) x.place 0 % entry_unit ≡ l.source.place =
      ap (λ i. get_or (source_list written) i 0 % entry_unit) place ∙ (omega (arith, listed, small)) in (
        l.source,
        row.0,
        sym source,
        λ c child.
            ap (λ new. length (keep (λ (y : Node). same (up y.dewey) x.dewey && eqb y.kind c) new)) (read room)
            ∙ nodes_kept (λ e g. same (up g) x.dewey && eqb e c) 0 written
            ∙ ap (λ g. length (keep (λ (m : Line). same (up m.dewey) g && eqb m.entry c) written)) d
            ∙ lines_number t one s ws some f.levels deep l hl c (subst (λ e. Has c (children s e)) k child),
      )

  -- judging is accepted
  judge-accepted : (judge f b sb).number ≡ 0
  unfolding judge judge_rows
  judge-accepted = ap (λ a. (reply no_judgement (a >>= (λ (w : Work). given (judgement w.nodes w.shape)))).number) passed

  -- A number of closest rows lies between what judging says, and so does the number of lines that equals it.
  shown-between : (new sources : List ℕ) → Faithful t s (new_nodes f new sources) (source_row sources)
      → ChildrenShown f b sb new sources → ChildrenBetween f b sb new sources
  shown-between new sources fa shown x hx c child =
      let (q, (iq, pq)) = row_of_lem t one s ws (new_nodes f new sources) (source_row sources) fa x hx in
      let lx = line_entry t one s ws (new_nodes f new sources) (source_row sources) fa x hx in
      let (lc, wc) = listed_child s ws x.kind c child in
      let range = judge_children f b sb judge-accepted c (child_pos s ws x.kind c lx lc wc) (omega (arith, entries-size f b sb w passed)) in
      let (lo, hi) = range.between q
      (of_kind_lem t (kind s (parent s c)) q (subst (λ e. In s ws t e q) (sym (child_parent s ws x.kind c lx wc)) iq)) in
      let (p, hp, pp, each) = shown x hx in
      let number = each c child ∙ ap (closest_number t (kind s c)) (one p q hp iq.0 (pp ∙ sym pq)) in
      (omega (arith, lo, number), omega (arith, hi, number))

-- A reshape that is accepted.
module _ (f : Format) (b sb table sources : List ℕ) (accepted : (reshape f b sb table sources).reply.number ≡ 0) where
  abbrev left : Reshaping
  left = reshape f b sb table sources

  abbrev wrote : Wrote f b sb table sources
  wrote = reshape_writes f b sb table sources accepted

  -- THE LINES BENEATH A LINE of the lent bytes and places at exit: its source row is a row, and of each child entry there are as many as that row
  -- has closest rows of its type.
  pub reshape_children : ChildrenShown f b sb (take (left.reply.rest * row_bytes f) left.table) (take left.reply.rest left.sources)
  reshape_children =
      subst₂ (ChildrenShown f b sb) (sym (new_left_lem f b sb table sources wrote)) (sym (sources_left_lem f b sb table sources wrote))
      (written_children f b sb wrote.work wrote.passed (omega (arith, wrote.room)))

  -- So they are no fewer and no more than judging says.
  pub reshape-between : ChildrenBetween f b sb (take (left.reply.rest * row_bytes f) left.table) (take left.reply.rest left.sources)
  reshape-between =
      shown-between f b sb wrote.work wrote.passed (take (left.reply.rest * row_bytes f) left.table) (take left.reply.rest left.sources)
      (reshape_faithful f b sb table sources wrote) reshape_children
