-- From what was read of a table and a shape to what the walks work on. Assumes nothing.
use Prim.Native.Nat.{ℕ, suc, ◌≤◌, ◌<◌, max}
use native.Mathlib.Omega.{arith}
use mathlib.Core.Path.{◌≡◌, sym, ◌∙◌, ap, ap₂, subst}
use mathlib.Core.List.{List}
use lib.ListN.{length, get_or}
use Rattle.paper.specs.Format.{Format, most_types}
use Rattle.paper.specs.Tables.{rows}
use Rattle.paper.specs.Closeness.{Node, nodes, kinds_meet}
use Rattle.paper.specs.Shapes as Paper
use Rattle.std.specs.Prelude.{Ok}
use Rattle.octets.specs.Served.{Served}
use Rattle.closest.specs.Deepest.{Meetings}
use Rattle.closest.specs.Rows.{RowsIn}
use Rattle.closest.specs.declared.rows.RowsRead.{RowsRead}
use Rattle.closest.proofs.Deepest.{types_meet_lem, kinds_shallow}
use Rattle.shapes.specs.Ways.{way_at}
use Rattle.shapes.specs.Tests.{Read, Passed, PassesEach, shape_in}
use Rattle.shapes.specs.Edges.{Known, meeting_of}
use Rattle.shapes.specs.Shape.{level_of, type_of, parent_of, edge_of, Sized, Drawn}
use Rattle.shapes.specs.Work.{Work, Holds, Ready}
use Rattle.shapes.specs.declared.shape.Shape.{Shape}
use Rattle.shapes.specs.declared.tests.Tested.{Tested}
use Rattle.shapes.proofs.Given as goal

-- The rows of a table have what tests 5 to 7 ask of it.
pub tested : {f : Format} {t s : List ℕ} {read : RowsRead} {levels ks : List ℕ} {r : Tested} {ways : List ℕ} → RowsIn f t read levels ks
    → PassesEach f read.parents read.labels read.count s (Ok r) ways → Passed f t s r ways
tested {t = t} i p = p t i.given_is i.told

module _ {f : Format} {t s : List ℕ} {read : RowsRead} {levels ks : List ℕ} {r : Tested} {ways : List ℕ} (i : RowsIn f t read levels ks)
    (p : Passed f t s r ways) where
  abbrev ns : List Node
  ns = nodes (rows f t)

  abbrev sh : Paper.Shape
  sh = shape_in f t s

  held : Read (shape_in f t s) r ways
  held = p.reads

  inways : (e : ℕ) → e < r.entries → e < length sh.ways
  inways e lt = omega (arith, held.counted)

  some-entry : 1 ≤ r.entries
  some-entry = omega (arith, goal.some-entry f t s p.given_is, held.counted)

  -- ---- what the edges ask for
  pub known : Known r.entries r.types r.parents
  known = record {
    inside = record {
      few = held.few;
      under = λ e lt. omega (arith, held.parent_is e lt, goal.parent_in f t s p.given_is e (inways e lt), held.counted);
    };
    typed = λ e lt. omega (arith, p.known e lt, i.told.count-is, i.told.few);
  }

  module _ (meetings : List ℕ) (met : Meetings read.rows levels ks r.types meetings)
      (d : Shape) (drawn : Drawn r.entries r.levels r.labels r.types r.parents meetings d) where
    -- ---- an entry of the shape as it was read
    inside : (e : ℕ) → e < d.entries → e < r.entries
    inside e lt = omega (arith, drawn.entries_are)

    type_at : (e : ℕ) → type_of d e ≡ get_or r.types e 0
    type_at e = ap (λ l. get_or l e 0) drawn.types_are

    parent_at : (e : ℕ) → parent_of d e ≡ get_or r.parents e 0
    parent_at e = ap (λ l. get_or l e 0) drawn.parents_are

    level-at : (e : ℕ) → level_of d e ≡ get_or r.levels e 0
    level-at e = ap (λ l. get_or l e 0) drawn.levels_are

    type_few : (e : ℕ) → e < r.entries → get_or r.types e 0 < most_types
    type_few = known.typed

    -- ---- where types meet
    meeting_is : (e c : ℕ) → e < r.entries → c < r.entries → meeting_of meetings r.types e c ≡ kinds_meet ns (get_or r.types e 0) (get_or r.types c 0)
    meeting_is e c le lc =
        let few = held.few in
        ap₂ (λ a b. max a b) (met (get_or r.types c 0) e (type_few c lc) (omega arith)) (met (get_or r.types e 0) c (type_few e le) (omega arith))
        ∙ types_meet_lem f read.rows t levels ks i.levelled (get_or r.types e 0) (get_or r.types c 0)

    meets : (e c : ℕ) → e < d.entries → c < d.entries → meeting_of meetings d.types e c ≡ kinds_meet ns (type_of d e) (type_of d c)
    meets e c le lc =
        ap (λ l. meeting_of meetings l e c) drawn.types_are ∙ meeting_is e c (inside e le) (inside c lc)
        ∙ ap₂ (λ a b. kinds_meet ns a b) (sym (type_at e)) (sym (type_at c))

    edge_is : (c : ℕ) → c < d.entries → edge_of d c ≡ kinds_meet ns (type_of d (parent_of d c)) (type_of d c)
    edge_is c lt =
        drawn.edges_are c (inside c lt) ∙ meeting_is (get_or r.parents c 0) c (known.inside.under c (inside c lt)) (inside c lt)
        ∙ ap₂ (λ a b. kinds_meet ns a b) (sym (type_at (get_or r.parents c 0)) ∙ ap (type_of d) (sym (parent_at c))) (sym (type_at c))

    -- ---- parents and levels
    nearest : (c : ℕ) → 0 < c → c < d.entries → (parent_of d c < c) × (level_of d c ≡ suc (level_of d (parent_of d c)))
    nearest c pos lt =
        let lc = inside c lt in
        let n = goal.over f t s p.given_is c pos (inways c lc) in
        let is = parent_at c ∙ held.parent_is c lc in
        let up = level-at (parent_of d c) ∙ held.level (parent_of d c) (omega (arith, is, n.0)) ∙ ap (λ e. get_or sh.levels e 0) is in
        (omega (arith, is, n.0), omega (arith, level-at c, held.level c lc, up, n.1))

    top : level_of d 0 ≡ 1
    top = level-at 0 ∙ held.level 0 some-entry ∙ goal.top f t s p.given_is

    deep : (e : ℕ) → e < r.entries → level_of d e ≤ f.levels
    deep e lt = let w = goal.way_deep f t s p.given_is e (inways e lt) in omega (arith, level-at e, held.level e lt, w.0, w.1)

    sized : Served f → Sized d
    sized served = record {
      some = omega (arith, some-entry, drawn.entries_are);
      few = omega (arith, held.few, drawn.entries_are);
      typed = λ e lt. omega (arith, type_at e, type_few e (inside e lt));
      root = parent_at 0 ∙ held.parent_is 0 some-entry ∙ goal.root f t s p.given_is;
      under = λ c pos lt. (nearest c pos lt).0;
      top = top;
      down = λ c pos lt. (nearest c pos lt).1;
      deep = λ c lt. omega (arith, edge_is c lt, kinds_shallow f read.rows t ks i.levelled.typed (type_of d (parent_of d c)) (type_of d c), served.shallow);
      before = λ e lt. omega (arith, drawn.ends_are.before e, drawn.entries_are);
      last = λ c pos lt. subst (λ q. c < get_or d.ends q 0) (sym (parent_at c)) (drawn.ends_are.last c pos (inside c lt));
    }

    abbrev work : Work
    work = record {
      rows = read.rows;
      levels = levels;
      types = ks;
      meetings = meetings;
      shape = d;
      ways = ways;
    }

    holds : Holds sh work
    holds = record {
      counted = drawn.entries_are ∙ held.counted;
      level-is = λ e lt. level-at e ∙ held.level e (inside e lt);
      label_is = λ e lt. ap (λ l. get_or l e 0) drawn.labels_are ∙ held.label e (inside e lt);
      type_is = λ e lt. type_at e ∙ held.type_is e (inside e lt);
      parent_is = λ e lt. parent_at e ∙ held.parent_is e (inside e lt);
      way_is = λ e lt. ap (way_at ways e) (level-at e) ∙ held.way_is e (inside e lt);
    }

    pub prepared : Served f → Ready f t s (record { rows = read.rows; levels = levels; types = ks; meetings = meetings; shape = d; ways = ways })
    prepared served = record {
      served = served;
      given_is = p.given_is;
      levelled = i.levelled;
      rows_are = i.rows_are;
      shaped = record { sized = sized served; meets = edge_is };
      shallow = λ e lt. deep e (inside e lt);
      meets = meets;
      holds = holds;
    }
