-- The theorems over bytes: what is kept, what is never made up, and what a reshape writes. Assumes nothing.
use Prim.Native.Nat.{ℕ, ◌+◌, ◌*◌, ◌-◌, ◌/◌, ◌≤◌, ◌<◌}
use native.Mathlib.Nat.{mul-div_cancel}
use native.Mathlib.Omega.{arith}
use mathlib.Core.Path.{◌≡◌, sym, ◌∙◌, ap, ap₂, subst, subst₂}
use mathlib.Core.Bool.{true}
use mathlib.Core.List.{List, ◌++◌, map}
use mathlib.Core.Option.{none}
use lib.ListN.{length, get_or, take, drop, length-take, length-map}
use lib.Dec.{leb}
use lib.Seq.{take_at}
use borrow.Author.Tests.{leb-true}
use Rattle.paper.specs.Lists.{Has, between, last_or}
use Rattle.paper.specs.Format.{Format, most_rows, most_lines, head_bytes, row_bytes, entry_bytes, whole, records}
use Rattle.paper.specs.Tables.{Row, rows, dewey, bad_row, row_types, types, type_number}
use Rattle.paper.specs.Closeness.{Node, nodes, shared, closest}
use Rattle.paper.specs.Shapes.{Entry, Shape, entries, entry_of, named, entry_kept, bad_entry, shape_over, kind, way, fork}
use Rattle.paper.specs.NewTable.{Line, lines, line_row, new_table, source_list, entry_unit}
use Rattle.paper.specs.Verdict.{Verdict, Judgement, kept, missing, verdict, judgement, meets_least, sure, alone}
use Rattle.paper.specs.Calls.{given, ◌>>=◌, reply, no_judgement, Work, Reshaping, tests1_4, tests1_7, judge_rows, judge, reshaping, reshape_rows, reshape, room_in, after}
use Rattle.paper.specs.Links.{new_nodes, source_row, shown_pairs, source_pairs, LinksKept}
use Rattle.paper.specs.Faithful.{Faithful}
use Rattle.paper.specs.MadeUp.{Under}
use Rattle.paper.proofs.Lists.{both, get_d_has, map-has}
use Rattle.paper.proofs.Agree.{Agree, agree_take, take_agree, shared-length}
use Rattle.paper.proofs.Closeness.{closest_near, near_closest}
use Rattle.paper.proofs.Forest.{one_place, place_bounds, nodes_from-length}
use Rattle.paper.proofs.Tables.{Rules, none-rules, rules-each, rows_laid, length-words, nodes_numbered, sound-pos, one-level, one-row}
use Rattle.paper.proofs.Shapes.{Ways, level_of, entry_label, shape-ways, way_level, size}
use Rattle.paper.proofs.Verdict.{In, way_one, missing_alone}
use Rattle.paper.proofs.Lines.{row_of_lem, line_entry, line_level, line_above, alone-unshown}
use Rattle.paper.proofs.Demand3.{together-pos, fork_way, fork_in, made_up_none, missing_none}
use Rattle.paper.proofs.Links.{Source, links}
use Rattle.paper.proofs.Bytes.{Small}
use Rattle.paper.proofs.Reread
use Rattle.paper.proofs.Calls.{passed1_3, passed5_6, passed1_7, count-rows, few_rows, passed8}
use Rattle.paper.proofs.Calls.{bind_given, bind_past, reply-given, given-same, passed_reshaping, numbered_reshaping}

-- A table and a shape past the tests 1 to 7.
module _ (f : Format) (b sb : List ℕ) (w : Work) (passed : tests1_7 f b sb ≡ given w) where
  abbrev pub rs : List Row
  rs = rows f b

  abbrev pub t : List Node
  t = nodes (rows f b)

  abbrev pub s : Shape
  s = shape_over (types (rows f b)) (entries f sb)

  sound : bad_row f rs ≡ none
  sound = (passed1_3 f b rs (passed1_7 f b sb w passed).0).1

  pub few : length rs ≤ most_rows
  few = few_rows f b (passed1_3 f b rs (passed1_7 f b sb w passed).0).2

  pub numbered : (x : Node) → Has x t → x.place < length rs
  unfolding nodes
  numbered x h =
      omega (
        arith,
        (place_bounds 0 t (nodes_numbered rs) x h).1,
        nodes_from-length 0 (map (type_number (types rs)) (row_types rs)) (map dewey rs),
        length-map rs dewey,
      )

  -- the source table
  pub source_table : Source t
  source_table = record {
    one_place = one_place 0 t (nodes_numbered rs);
    one_number = one-row f rs (rows_laid f b) sound;
    one-level = one-level f rs (rows_laid f b) sound;
    some_level = sound-pos f rs (rows_laid f b) sound;
  }

  pub kept_entries : Rules (entry_kept f) level_of 0 (entries f sb)
  unfolding bad_entry
  kept_entries = none-rules (entry_kept f) level_of 0 0 (entries f sb) (passed5_6 f sb (entries f sb) (passed1_7 f b sb w passed).1).1

  -- the shape's ways
  pub ways : Ways s
  ways = shape-ways f (types rs) (entries f sb) kept_entries

  pub entries-size : length s.ways ≡ length (entries f sb)
  entries-size = size f (types rs) (entries f sb) kept_entries

  pub some-entry : 0 < length s.ways
  some-entry = omega (arith, entries-size, (passed5_6 f sb (entries f sb) (passed1_7 f b sb w passed).1).2)

  pub levels : (e : ℕ) → e < length s.ways → (length (way s e) ≡ get_or s.levels e 0) × (length (way s e) ≤ f.levels)
  levels e le = way_level f (types rs) (entries f sb) kept_entries e (omega (arith, entries-size))

  labels : (e : ℕ) → e < length s.ways → between 1 (get_or s.labels e 0) f.labels ≡ true
  unfolding shape_over entries entry_of
  labels e le =
      let last : Entry → ℕ = λ e. last_or 0 (named e) in
      let at = get_d_has 0 (map last (entries f sb)) e (omega (arith, entries-size, length-map (entries f sb) last)) in
      let (x, hx, q) = map-has last (get_or (map last (entries f sb)) e 0) (entries f sb) at in
      let (y, hy, ey) = map-has (entry_of f) x (records (entry_bytes f) (whole (entry_bytes f) sb) sb) hx in
      let (c, k) = rules-each (entry_kept f) level_of 0 (entries f sb) kept_entries x hx in
      subst (λ z. between 1 z f.labels ≡ true) (sym q)
      (entry_label f c x (ap (λ (z : Entry). length z.labels) ey ∙ length-words f.levels y head_bytes) k)

  -- ---- any faithful new table
  module _ (new sources : List ℕ) (fa : Faithful t s (new_nodes f new sources) (source_row sources)) where
    abbrev line_list : List Node
    line_list = new_nodes f new sources

    -- DEMAND 3. Where the verdict is 0, a faithful new table keeps the links.
    pub faithful_links : verdict t s ≡ kept → LinksKept f b sb new sources
    unfolding LinksKept shown_pairs source_pairs shape_over
    faithful_links ok e g le lg r q =
        links t source_table s ways (new_nodes f new sources) (source_row sources) fa ok e g (omega (arith, entries-size)) (omega (arith, entries-size)) r q

    abbrev one : (x y : Node) → Has x t → Has y t → x.place ≡ y.place → x ≡ y
    one = source_table.one_place

    -- a line of the fork is as long as what the two ways share
    fork_level : (e g : ℕ) → e < length s.ways → g < length s.ways → (z : Node) → Has z line_list → z.kind ≡ fork s e g
        → length z.dewey ≡ shared (way s e) (way s g)
    fork_level e g le lg z hz kz =
        line_level t one s ways line_list (source_row sources) fa z hz ∙ ap (λ c. length (way s c)) kz ∙ ap length (fork_way s ways e g le lg)
        ∙ (omega (arith, length-take (shared (way s e) (way s g)) (way s e), shared-length (way s e) (way s g)))

    -- NOTHING MADE UP. Where a pair of different entries earns no 2, two lines of them that hang under, or are, one line of
    -- their fork entry have closest source rows, whatever the verdict is.
    pub nothing_made_up : (e g : ℕ) → e < length s.ways → g < length s.ways → (e ≡ g → ⊥) → meets_least t s e g ≡ true
        → (x y z : Node) → Has x line_list → Has y line_list → Has z line_list → x.kind ≡ e → y.kind ≡ g → z.kind ≡ fork s e g → Under z x → Under z y
        → (r q : Node) → Has r t → Has q t → r.place ≡ source_row sources x → q.place ≡ source_row sources y → closest t r q ≡ true
    nothing_made_up e g le lg ne least x y z hx hy hz kx ky kz ux uy r q hr hq sr sq =
        let (r', (ir, pr)) = row_of_lem t one s ways line_list (source_row sources) fa x hx in
        let (q', (iq, pq)) = row_of_lem t one s ways line_list (source_row sources) fa y hy in
        let n = fork_level e g le lg z hz kz in
        let a : Agree (length z.dewey) x.dewey y.dewey =
        take_agree (length z.dewey) x.dewey y.dewey (under z x ux) (ux ∙ sym uy) (under z y uy) in
        let near = made_up_none t one s ways line_list (source_row sources) fa e g le lg ne least x y r' q' hx hy kx ky (ir, pr) (iq, pq)
        (subst (λ k. Agree k x.dewey y.dewey) n a) in
        subst₂ (λ a c. closest t a c ≡ true) (one r' r ir.0 hr (pr ∙ sym sr)) (one q' q iq.0 hq (pq ∙ sym sq))
        (near_closest t (kind s e) (kind s g) r' q' (subst (λ c. In s ways t c r') kx ir) (subst (λ c. In s ways t c q') ky iq) near)
      where
        under : (z x : Node) → Under z x → length z.dewey ≤ length x.dewey
        under z x u = omega (arith, ap length u, length-take (length z.dewey) x.dewey)

    -- NOTHING MISSING. Where no row lacks a partner and the pair earns neither a 2 nor a 3, closest rows of the two entries'
    -- types stand in lines that hang under, or are, one line of the fork entry.
    pub nothing_missing : ((c : ℕ) → 0 < c → c < length s.ways → (r : Node) → Has r (alone t s c) → ⊥)
        → (e g : ℕ) → e < length s.ways → g < length s.ways → (e ≡ g → ⊥) → meets_least t s e g ≡ true → sure t s e g ≡ true
        → (r q : Node) → Has r t → Has q t → r.kind ≡ kind s e → q.kind ≡ kind s g → closest t r q ≡ true
        → (x y z : Node) × Has x line_list × Has y line_list × Has z line_list × (x.kind ≡ e) × (y.kind ≡ g) × (z.kind ≡ fork s e g)
        × Under z x × Under z y × (source_row sources x ≡ r.place) × (source_row sources y ≡ q.place)
    nothing_missing no-alone e g le lg ne least certain r q hr hq kr kq c =
        let near = closest_near t (kind s e) (kind s g) r q kr kq c in
        let (x, y, hx, hy, kx, ky, sx, sy, a) =
        missing_none t one s ways line_list (source_row sources) fa e g le lg ne least no-alone certain r q (hr, kr) (hq, kq) near in
        let (z, hz, kz, ez) = fork_line x hx kx in
        let n = fork_level e g le lg z hz kz in
        let ux : Under z x = ap (λ k. take k x.dewey) n ∙ sym ez in
        (x, y, z, hx, hy, hz, kx, ky, kz, ux, ap (λ k. take k y.dewey) n ∙ sym (agree_take (shared (way s e) (way s g)) x.dewey y.dewey a) ∙ sym ez, sx, sy)
      where
        -- the line above a line of e at the fork's level is one of the fork
        fork_line : (x : Node) → Has x line_list → x.kind ≡ e → (z : Node) × Has z line_list × (z.kind ≡ fork s e g) × (z.dewey ≡ take (shared (way s e) (way s g)) x.dewey)
        fork_line x hx kx =
            let k = shared (way s e) (way s g) in
            let (p, sp) = row_of_lem t one s ways line_list (source_row sources) fa x hx in
            let lk : k ≤ length (way s x.kind) = subst (λ c. k ≤ length (way s c)) (sym kx) (shared-length (way s e) (way s g)) in
            let a = line_above t one s ways line_list (source_row sources) fa (length (way s x.kind) - k) k x p hx sp (together-pos s ways e g le lg) (omega arith) in
            let same : way s a.line.kind ≡ way s (fork s e g) = a.entries ∙ ap (λ c. take k (way s c)) kx ∙ sym (fork_way s ways e g le lg) in
            (a.line, a.there, way_one s ways a.line.kind (fork s e g) (line_entry t one s ways line_list (source_row sources) fa a.line a.there) (fork_in s ways e g le lg) same, a.number)

    -- The row named by verdict 1 stands in no line of the named entry.
    pub named-row-unshown : (e p : ℕ) → verdict t s ≡ missing e p → (x : Node) → Has x line_list → x.kind ≡ e → source_row sources x ≡ p → ⊥
    named-row-unshown e p v x hx kx sx =
        let (pos, le, r, hr, pr) = missing_alone s t e p v in
        alone-unshown t source_table.one_place s ways line_list (source_row sources) fa e r pos hr x hx kx (sx ∙ sym pr)

  -- ---- what the definition writes
  abbrev pub ls : List Line
  ls = lines t s f.levels

  -- The written table always meets the row rules.
  pub written_kept : bad_row f (map (line_row f s rs) ls) ≡ none
  written_kept = Reread.lines_kept f b s ways some-entry source_table.one_place numbered (omega (arith, few)) levels labels

  pub written_faithful : length ls < entry_unit → Faithful t s (new_nodes f (new_table f s rs ls) (source_list ls)) (source_row (source_list ls))
  written_faithful = Reread.table_faithful f b s ways some-entry source_table.one_place numbered (omega (arith, few)) levels

  pub written_length : length ls < entry_unit → length (new_table f s rs ls) ≡ length ls * row_bytes f
  written_length = Reread.length_new f b s ways some-entry source_table.one_place numbered (omega (arith, few)) levels

  pub written_rows : length ls < entry_unit → length (rows f (new_table f s rs ls)) ≡ length ls
  written_rows room = count-rows f (new_table f s rs ls) ∙ ap (λ n. n / row_bytes f) (written_length room) ∙ mul-div_cancel (length ls) (omega arith)

  -- ---- read again, where the last labels of the entries are of 16 bits
  module _ (room : length ls < entry_unit) (Label-small : (e : ℕ) → e < length s.ways → Small (get_or s.labels e 0)) where
    -- The bytes of a written table keep the row rules.
    pub written_sound : bad_row f (rows f (new_table f s rs ls)) ≡ none
    written_sound =
        subst (λ r. bad_row f r ≡ none)
        (sym (Reread.rows-again f b s ways some-entry source_table.one_place numbered (omega (arith, few)) levels room Label-small)) written_kept

    -- They have at most one type for each entry.
    pub written_types : length (types (rows f (new_table f s rs ls))) ≤ length (entries f sb)
    written_types =
        omega (arith, entries-size, Reread.types-again f b s ways some-entry source_table.one_place numbered (omega (arith, few)) levels room Label-small)

  -- a format whose largest label is of 16 bits has such labels
  pub format_small : Small f.labels → (e : ℕ) → e < length s.ways → Small (get_or s.labels e 0)
  format_small lim e le =
      let label = get_or s.labels e 0 in
      omega (arith, leb-true label f.labels (both (leb 1 label) (leb label f.labels) (labels e le)).1)

  -- what judging says is what is said of the table's nodes and the shape
  pub judged : (judge f b sb).rest ≡ judgement t s
  unfolding judge judge_rows
  judged =
      ap (λ a. (reply no_judgement (a >>= (λ (w : Work). given (judgement w.nodes w.shape)))).rest) passed
      ∙ ap (λ (w : Work). judgement w.nodes w.shape) (passed1_7 f b sb w passed).2

  pub judged_verdict : {v : Verdict} → (judge f b sb).rest.verdict ≡ v → verdict t s ≡ v
  judged_verdict e = ap (λ (j : Judgement). j.verdict) (sym judged) ∙ e

pub source_length : (l : List Line) → length (source_list l) ≡ length l
unfolding source_list
source_length l = length-map l (λ (l : Line). l.entry * entry_unit + l.source.place)

-- ---- a reshape
module _ (f : Format) (b sb table sources : List ℕ) where
  abbrev pub r : Reshaping
  r = reshape f b sb table sources

  -- an accepted reshape writes the lines, and leaves what lies past them
  pub record Wrote : Type 0 where
    pub work : Work
    pub passed : tests1_7 f b sb ≡ given work
    pub room : length (ls f b sb work passed) ≤ most_lines
    pub count : r.reply.rest ≡ length (ls f b sb work passed)
    pub lent : r.table ≡ new_table f (s f b sb work passed) (rows f b) (ls f b sb work passed)
        ++ drop (length (new_table f (s f b sb work passed) (rows f b) (ls f b sb work passed))) table
    pub places : r.sources ≡ source_list (ls f b sb work passed) ++ drop (length (source_list (ls f b sb work passed))) sources

  pub reshape_writes : r.reply.number ≡ 0 → Wrote
  unfolding reshape reshape_rows
  reshape_writes e =
      let room = room_in f table sources in
      let a = reshaping f (tests1_4 f b) sb room in
      let (v, q, rest) = reply-given 0 (a >>= (λ (x : List ℕ × List ℕ). given (length x.1)))
      (bind_past 0 a (λ (x : List ℕ × List ℕ). given (length x.1)) (numbered_reshaping f b sb room) (λ x. tt)) e in
      let (x, ax, kx) = bind_given a (λ (x : List ℕ × List ℕ). given (length x.1)) v q in
      let (w, ls₀, h₁, h₂, ex) = passed_reshaping f b sb room x ax in
      let ew = (passed1_7 f b sb w h₁).2 in
      let (el, le) = passed8 f w room ls₀ h₂ in
      let el' : ls₀ ≡ ls f b sb w h₁ = sym el ∙ ap (λ (w : Work). lines w.nodes w.shape f.levels) ew in
      let written : ◌≡◌ {A = List ℕ × List ℕ} x (new_table f (s f b sb w h₁) (rows f b) (ls f b sb w h₁), source_list (ls f b sb w h₁)) =
      ex ∙ ap₂ {C = List ℕ × List ℕ} (λ (w : Work) l. (new_table f w.shape w.rows l, source_list l)) ew el' in
      record {
        work = w;
        passed = h₁;
        room = omega (arith, le, ap length el');
        count = rest ∙ given-same v (length x.1) (sym kx) ∙ ap (λ (x : List ℕ × List ℕ). length x.1) written ∙ source_length (ls f b sb w h₁);
        lent = ap (λ a. after table (a >>= (λ (x : List ℕ × List ℕ). given x.0))) ax
            ∙ ap (λ (x : List ℕ × List ℕ). x.0 ++ drop (length x.0) table) written;
        places = ap (λ a. after sources (a >>= (λ (x : List ℕ × List ℕ). given x.1))) ax
            ∙ ap (λ (x : List ℕ × List ℕ). x.1 ++ drop (length x.1) sources) written;
      }

  -- the first records are the new table
  pub new_left_lem : (o : Wrote) → let new = new_table f (s f b sb o.work o.passed) (rows f b) (ls f b sb o.work o.passed) in
      take (r.reply.rest * row_bytes f) r.table ≡ new
  new_left_lem o =
      let l = ls f b sb o.work o.passed in
      let new = new_table f (s f b sb o.work o.passed) (rows f b) l in
      ap₂ (λ n z. take (n * row_bytes f) z) o.count o.lent
      ∙ take_at new (drop (length new) table) (length l * row_bytes f) (written_length f b sb o.work o.passed (omega (arith, o.room)))

  -- the first places are the source list
  pub sources_left_lem : (o : Wrote) → take r.reply.rest r.sources ≡ source_list (ls f b sb o.work o.passed)
  sources_left_lem o =
      let l = ls f b sb o.work o.passed in
      ap₂ (λ n z. take n z) o.count o.places ∙ take_at (source_list l) (drop (length (source_list l)) sources) (length l) (source_length l)

  -- the lent bytes and places at exit, as far as they are written, are faithful
  pub reshape_faithful : (o : Wrote) → Faithful (t f b sb o.work o.passed) (s f b sb o.work o.passed)
      (new_nodes f (take (r.reply.rest * row_bytes f) r.table) (take r.reply.rest r.sources)) (source_row (take r.reply.rest r.sources))
  reshape_faithful o =
      subst₂ (λ x y. Faithful (t f b sb o.work o.passed) (s f b sb o.work o.passed) (new_nodes f x y) (source_row y))
      (sym (new_left_lem o)) (sym (sources_left_lem o)) (written_faithful f b sb o.work o.passed (omega (arith, o.room)))

  -- DEMAND 3 of a reshape: where it is accepted and the verdict is 0, the lent bytes and places at exit keep the links.
  pub reshape_links : r.reply.number ≡ 0 → (judge f b sb).rest.verdict ≡ kept
      → LinksKept f b sb (take (r.reply.rest * row_bytes f) r.table) (take r.reply.rest r.sources)
  reshape_links e v =
      let o = reshape_writes e in
      faithful_links f b sb o.work o.passed (take (r.reply.rest * row_bytes f) r.table) (take r.reply.rest r.sources)
      (reshape_faithful o) (judged_verdict f b sb o.work o.passed v)
