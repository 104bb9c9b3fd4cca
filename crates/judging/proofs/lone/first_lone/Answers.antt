-- `judging::lone::first_lone`: row by row, whether it has a partner. Assumes nothing.
use Rattle.std.proofs.Common.{◌≡◌, ℕ, ◌<◌, List, get_or, refl, sym, ◌∙◌, ap}
use Rattle.shapes.specs.Shape.{type_of, parent_of, edge_of}
use Rattle.shapes.specs.declared.shape.Shape.{Shape}
use Rattle.partners.specs.Closest.{Bound}
use Rattle.judging.proofs.Search.{candidates_here, candidates_on, entries_from, entries_met, entry-none}
use Rattle.judging.proofs.Search.{Asked, done_before, standing, done_other, done_partnered, done-alone}
use Rattle.judging.specs.Told.{told}
use Rattle.judging.proofs.lone.first_lone.Goals as goal

-- what is asked for entry c, of which `other` was read as the parent
asked : (levels types : List ℕ) (rows : ℕ) (s : Shape) (c : ℕ) {other bound : ℕ} → ((j : ℕ) → get_or levels j 0 < 256) → c < s.entries
    → other ≡ parent_of s c → Bound (edge_of s c) bound → Asked levels types rows s c (type_of s c) (type_of s other) bound
asked levels types rows s c bytes before other bounds = record {
  bytes = bytes;
  before = before;
  own_is = refl;
  other_is = ap (type_of s) other;
  bounds = bounds;
}

pub entries-init : goal.entries-init
entries-init c =
    let a = c.args in
    let m = c.requires.2 in
    (m.some, m.few, entries_met a.levels.now a.types.now a.rows a.shape a.met m.some m.few m.each, m.before, refl)

pub rows-init : goal.rows-init
rows-init c =
    let a = c.args in
    let q = asked a.levels.now a.types.now a.rows a.shape c.entries.c (λ j. (c.type_inv.levels j).fits) c.entries-test.true c.wide.ensures.0
    c.run_bound-bound.ensures in
    let answer = entries_from a.levels.now a.types.now a.rows a.shape 1 in
    (done_before q answer c.entries.first (c.entries.invariant.3 c.entries-test.true) c.entries.invariant.2, c.entries.invariant.4)

pub loop-j-init : goal.loop-j-init
loop-j-init c =
    let a = c.args in
    let q = asked a.levels.now a.types.now a.rows a.shape c.entries.c (λ j. (c.type_inv.levels j).fits) c.entries-test.true c.wide.ensures.0
    c.run_bound-bound.ensures in
    let answer = entries_from a.levels.now a.types.now a.rows a.shape 1 in
    candidates_here q answer c.rows.r c.candidate_from-j.result
    (standing q answer c.rows.j c.rows.r c.rows.invariant.0 c.rows-test.true c.candidate_from-j.result c.candidate_from-j.ensures)

pub rows-preserved-then-types-j : goal.rows-preserved-then-types-j
rows-preserved-then-types-j c =
    let a = c.args in
    let q = asked a.levels.now a.types.now a.rows a.shape c.entries.c (λ j. (c.type_inv.levels j).fits) c.entries-test.true c.wide.ensures.0
    c.run_bound-bound.ensures in
    let answer = entries_from a.levels.now a.types.now a.rows a.shape 1 in (
      done_partnered q answer c.rows.j c.rows.r c.rows.invariant.0 c.rows-test.true c.if-types-r.true c.loop-j.j c.loop-j.invariant c.loop-j-test.true
          c.if-types-j.true,
      c.rows.invariant.1,
    )

pub loop-j-preserved : goal.loop-j-preserved
loop-j-preserved c =
    let a = c.args in
    let q = asked a.levels.now a.types.now a.rows a.shape c.entries.c (λ j. (c.type_inv.levels j).fits) c.entries-test.true c.wide.ensures.0
    c.run_bound-bound.ensures in
    let answer = entries_from a.levels.now a.types.now a.rows a.shape 1 in
    candidates_on q answer c.rows.r c.loop-j.j c.next_in_run-j.result c.loop-j.invariant c.loop-j-test.true c.if-types-j.false c.next_in_run-j.ensures

pub returns-after-loop-j : goal.returns-after-loop-j
returns-after-loop-j c =
    let a = c.args in
    let q = asked a.levels.now a.types.now a.rows a.shape c.entries.c (λ j. (c.type_inv.levels j).fits) c.entries-test.true c.wide.ensures.0
    c.run_bound-bound.ensures in
    let answer = entries_from a.levels.now a.types.now a.rows a.shape 1 in
    done-alone q answer c.rows.j c.rows.r c.rows.invariant.0 c.rows-test.true c.if-types-r.true c.loop-j.j c.loop-j.invariant c.loop-j-test.false

pub rows-preserved : goal.rows-preserved
rows-preserved c =
    let a = c.args in
    let q = asked a.levels.now a.types.now a.rows a.shape c.entries.c (λ j. (c.type_inv.levels j).fits) c.entries-test.true c.wide.ensures.0
    c.run_bound-bound.ensures in
    let answer = entries_from a.levels.now a.types.now a.rows a.shape 1 in (
      done_other q answer c.rows.j c.rows.r c.rows.invariant.0 c.rows-test.true c.candidate_from-j.result
          (standing q answer c.rows.j c.rows.r c.rows.invariant.0 c.rows-test.true c.candidate_from-j.result c.candidate_from-j.ensures)
          c.if-types-r.false,
      c.rows.invariant.1,
    )

pub returns-after-entries : goal.returns-after-entries
returns-after-entries c =
    let a = c.args in
    ap told c.entries.invariant.4 ∙ sym (entry-none a.levels.now a.types.now a.rows a.shape c.entries.c c.entries-test.false) ∙ c.entries.invariant.2
