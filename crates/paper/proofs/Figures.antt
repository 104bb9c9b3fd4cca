-- The figures of a summary: each entry's different rows are no more than its lines, nor than the rows of its type, and where the
-- verdict is 0 they are all of those. Assumes nothing.
use Prim.Native.Nat.{ℕ, suc, ◌+◌, ◌-◌, ◌≤◌, ◌<◌}
use native.Mathlib.Nat.{le_antisymm}
use native.Mathlib.Omega.{arith}
use mathlib.Core.Path.{◌≡◌, refl, sym, ◌∙◌, ap, subst}
use mathlib.Core.Bool.{Bool, true, false, false≢true}
use mathlib.Core.List.{List, [], ◌∷◌, map}
use lib.Dec.{eqb}
use lib.ListN.{length}
use borrow.Author.Tests.{eqb-true, eq-eqb}
use Rattle.paper.specs.Lists.{Has, keep, padded}
use Rattle.paper.specs.Format.{Format, most_entries, most_lines}
use Rattle.paper.specs.Tables.{Row, rows}
use Rattle.paper.specs.Closeness.{Node, nodes, of_kind}
use Rattle.paper.specs.Shapes.{Shape, kind, numbers}
use Rattle.paper.specs.NewTable.{Line, lines}
use Rattle.paper.specs.Figures.{Figures, entry_lines, appears, different_rows, figures, no_figures}
use Rattle.paper.specs.Verdict.{kept, verdict}
use Rattle.paper.specs.Calls.{Answer, given, ◌>>=◌, Work, tests1_7, test8, judge, summarise_rows, summarise}
use Rattle.paper.specs.Shown.{FiguresAgree}
use Rattle.paper.proofs.Lists.{either, keep-has, has-keep, any_has, has_any, map_same, count-has}
use Rattle.paper.proofs.Kept.{put_if, keep-none, keep_either, keep-fewer, padded-each}
use Rattle.paper.proofs.Forest.{Numbered, place_bounds, one_place}
use Rattle.paper.proofs.Tables.{nodes_numbered}
use Rattle.paper.proofs.Verdict.{kept_alone}
use Rattle.paper.proofs.Written.{line_type, row_stands}
use Rattle.paper.proofs.Calls.{bind_given, given-same, reply-rest, passed1_7, passed8}
use Rattle.paper.proofs.Promises as Promises
use Rattle.paper.proofs.Promises.{source_table, ways, some-entry, levels, judged_verdict}

-- ---- no more than the lines
-- the row has the place n
abbrev at_place : ℕ → Node → Bool
at_place n r = eqb n r.place

-- one row at most has the place n
one_at : (n i : ℕ) (t : List Node) → Numbered i t → length (keep (at_place n) t) ≤ 1
one_at n i [] o = omega arith
one_at n i (x ∷ t) o = go (eqb n x.place) refl (one_at n (suc i) t o.1)
  where
    go : (b : Bool) → eqb n x.place ≡ b → length (keep (at_place n) t) ≤ 1
        → length (put_if b x (keep (at_place n) t)) ≤ 1
    go true e ih =
        omega (
          arith,
          keep-none (at_place n) t (λ r h q.
              omega (arith, eqb-true n x.place e, eqb-true n r.place q, o.0, (place_bounds (suc i) t o.1 r h).0)),
        )
    go false e ih = ih

-- each line accounts for one row at most
rows_few : (t : List Node) → Numbered 0 t → (ls : List Line) → length (different_rows t ls) ≤ length ls
unfolding different_rows appears
rows_few t o [] = omega (arith, keep-none (appears []) t (λ r h e. false≢true e))
rows_few t o (l ∷ ls) =
    let at = at_place l.source.place in
    omega (
      arith,
      keep_either (appears (l ∷ ls)) at (appears ls) t (λ r h. either (at r) (appears ls r)),
      one_at l.source.place 0 t o,
      rows_few t o ls,
    )

-- The different source rows that appear in lines are no more than the lines.
pub different_few : (rs : List Row) (ls : List Line) → length (different_rows (nodes rs) ls) ≤ length ls
different_few rs ls = rows_few (nodes rs) (nodes_numbered rs) ls

-- ---- no more than the rows of the type
-- a row that appears in the lines of an entry is the source row of a line of that entry
shown_by : (ls : List Line) (e : ℕ) (r : Node) → appears (entry_lines ls e) r ≡ true → (l : Line) × Has l ls × (l.entry ≡ e) × (l.source.place ≡ r.place)
unfolding appears entry_lines
shown_by ls e r h =
    let (l, hl, q) = any_has (λ (l : Line). eqb l.source.place r.place) (entry_lines ls e) h in
    let (i, k) = keep-has (λ (l : Line). eqb l.entry e) l ls hl in
    (l, i, eqb-true l.entry e k, eqb-true l.source.place r.place q)

-- and back
by-shown : (ls : List Line) (e : ℕ) (r : Node) (l : Line) → Has l ls → l.entry ≡ e → l.source.place ≡ r.place → appears (entry_lines ls e) r ≡ true
unfolding appears entry_lines
by-shown ls e r l h k p =
    has_any (λ (l : Line). eqb l.source.place r.place) l (entry_lines ls e)
    (has-keep (λ (l : Line). eqb l.entry e) l ls h (eq-eqb l.entry e k)) (eq-eqb l.source.place r.place p)

-- The different rows that appear in the lines of an entry are no more than the rows of its type.
pub different_of_type : (rs : List Row) (s : Shape) (n e : ℕ)
    → length (different_rows (nodes rs) (entry_lines (lines (nodes rs) s n) e)) ≤ length (of_kind (nodes rs) (kind s e))
unfolding different_rows of_kind
different_of_type rs s n e =
    let t = nodes rs in
    let ls = lines t s n in
    keep-fewer (appears (entry_lines ls e)) (λ (r : Node). eqb r.kind (kind s e)) t (λ r h q.
    let (l, hl, k, p) = shown_by ls e r q in
    let (i, o) = line_type t s n l hl in
    let one : l.source ≡ r = one_place 0 t (nodes_numbered rs) l.source r i h p in
    eq-eqb r.kind (kind s e) (sym (ap (λ (x : Node). x.kind) one) ∙ o ∙ ap (kind s) k))

-- ---- the figures of a summary
-- What each entry's figures say to one another, the padded lists say at each place.
padded_agree : (es : List ℕ) (shown held different : ℕ → ℕ) → ((x : ℕ) → different x ≤ shown x) → ((x : ℕ) → different x ≤ held x) → (e : ℕ)
    → let at : (ℕ → ℕ) → List ℕ = λ g. padded most_entries (map g es) in
    FiguresAgree (record { lines = at shown; rows = at held; copies = at (λ x. shown x - different x); different = at different }) e
padded_agree es shown held different few_lines few_rows e =
    let (a, b, c) = padded-each P (omega arith, omega arith, omega arith)
    (λ x. (few_lines x, few_rows x, omega (arith, few_lines x))) most_entries most_entries es e in
    record { few_lines = a; few_rows = b; copies_are = c }
  where
    P : ((ℕ → ℕ) → ℕ) → Type 0
    P at = (at different ≤ at shown) × (at different ≤ at held) × (at (λ x. shown x - different x) + at different ≡ at shown)

zeros_agree : (e : ℕ) → FiguresAgree no_figures e
zeros_agree = let none : ℕ → ℕ = λ x. 0 in padded_agree [] none none none (λ x. omega arith) (λ x. omega arith)

figures_agree : (rs : List Row) (s : Shape) (n e : ℕ) → FiguresAgree (figures (nodes rs) s (lines (nodes rs) s n)) e
unfolding figures
figures_agree rs s n =
    let t = nodes rs in
    let ls = lines t s n in
    padded_agree (numbers s) (λ x. length (entry_lines ls x)) (λ x. length (of_kind t (kind s x))) (λ x. length (different_rows t (entry_lines ls x)))
    (λ x. different_few rs (entry_lines ls x)) (different_of_type rs s n)

-- ---- over bytes
-- What holds of zeros, and of the figures of a table and a shape past the tests 1 to 7, holds of each summary, refused or not.
summary_rest : (f : Format) (b sb : List ℕ) (P : Figures → Type 0) → P no_figures
    → ((w : Work) (passed : tests1_7 f b sb ≡ given w) → P (figures (Promises.t f b sb w passed) (Promises.s f b sb w passed) (Promises.ls f b sb w passed)))
    → P (summarise f b sb).rest
unfolding summarise summarise_rows
summary_rest f b sb P zeros past = reply-rest P no_figures (tests1_7 f b sb >>= next) zeros shown
  where
    next : Work → Answer Figures
    next w = test8 f w most_lines >>= (λ l. given (figures w.nodes w.shape l))

    shown : (x : Figures) → (tests1_7 f b sb >>= next) ≡ given x → P x
    shown x h =
        let (w, passed, k) = bind_given (tests1_7 f b sb) next x h in
        let (l, h₈, q) = bind_given (test8 f w most_lines) (λ l. given (figures w.nodes w.shape l)) x k in
        let e : figures w.nodes w.shape (lines w.nodes w.shape f.levels) ≡ x =
        ap (figures w.nodes w.shape) (passed8 f w most_lines l h₈).0 ∙ given-same (figures w.nodes w.shape l) x q in
        let e₀ = ap (λ (w : Work). figures w.nodes w.shape (lines w.nodes w.shape f.levels)) (passed1_7 f b sb w passed).2 in
        subst P (sym e₀ ∙ e) (past w passed)

-- The figures of a summary agree for each entry, whatever the call answers.
pub summary_agrees : (f : Format) (b sb : List ℕ) (e : ℕ) → FiguresAgree (summarise f b sb).rest e
summary_agrees f b sb e =
    summary_rest f b sb (λ x. FiguresAgree x e) (zeros_agree e) (λ w passed. figures_agree (rows f b) (Promises.s f b sb w passed) f.levels e)

-- A table and a shape past the tests 1 to 7, where the verdict is 0.
module _ (f : Format) (b sb : List ℕ) (w : Work) (passed : tests1_7 f b sb ≡ given w)
    (ok : verdict (Promises.t f b sb w passed) (Promises.s f b sb w passed) ≡ kept) where
  abbrev t : List Node
  t = Promises.t f b sb w passed

  abbrev s : Shape
  s = Promises.s f b sb w passed

  abbrev ls : List Line
  ls = Promises.ls f b sb w passed

  -- every row of an entry's type appears in its lines
  entry-all : (e : ℕ) → e < length s.ways → length (different_rows t (entry_lines ls e)) ≡ length (of_kind t (kind s e))
  unfolding different_rows of_kind
  entry-all e le =
      let stands = row_stands t (source_table f b sb w passed).one_place s (ways f b sb w passed) (some-entry f b sb w passed) f.levels
      (λ g lg. (levels f b sb w passed g lg).1) (kept_alone s t ok) e le in
      le_antisymm (different_of_type (rows f b) s f.levels e)
      (keep-fewer (λ (r : Node). eqb r.kind (kind s e)) (appears (entry_lines ls e)) t (λ r h q.
      let (l, hl, k, p) = stands r (h, eqb-true r.kind (kind s e) q) in by-shown ls e r l hl k p))

  figures-all : (figures t s ls).different ≡ (figures t s ls).rows
  unfolding figures
  figures-all = ap (padded most_entries) (map_same _ _ (numbers s) (λ e h. entry-all e (omega (arith, (count-has 0 (length s.ways) e h).1))))

-- Where the verdict is 0, every row of an entry's type is shown: its different rows are as many as the rows of its type.
pub summary_shows_all : (f : Format) (b sb : List ℕ) → (judge f b sb).rest.verdict ≡ kept
    → (summarise f b sb).rest.different ≡ (summarise f b sb).rest.rows
summary_shows_all f b sb ok =
    summary_rest f b sb (λ x. x.different ≡ x.rows) refl (λ w passed. figures-all f b sb w passed (judged_verdict f b sb w passed ok))
