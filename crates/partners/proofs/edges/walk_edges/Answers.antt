use Rattle.std.proofs.Common.{arith}
use Rattle.partners.proofs.Shaped.{end_within, edged}
use Rattle.partners.proofs.edges.walk_edges.Goals.{in-Some, in-None}
use Rattle.partners.proofs.edges.walk_edges.Goals as goal

pub lone_start-requires : goal.lone_start-requires
lone_start-requires c =
    let a = c.args in (
      c.in-Some.ensures.0,
      c.requires.1.few,
      end_within a.levels.now a.types.now a.rows c.requires.0 a.shape c.requires.1 c.walk_group-low.ensures c.walk_group-high.ensures
          c.in-Some.ensures.1,
    )

pub returns : goal.returns
returns c =
    let a = c.args in
    elim c.match-first_alone.branch [
      | in-Some w ↦
          rw w.met-is (edged a.levels.now a.types.now a.rows c.requires.0 a.shape c.requires.1 c.walk_group-low.ensures c.walk_group-high.ensures _
          c.spread.ensures c.spread-2.ensures c.spread-3.ensures c.spread-4.ensures w.in-Some.ensures.1 w.lone_start.ensures)
      | in-None w ↦
          rw w.met-is (edged a.levels.now a.types.now a.rows c.requires.0 a.shape c.requires.1 c.walk_group-low.ensures c.walk_group-high.ensures _
          c.spread.ensures c.spread-2.ensures c.spread-3.ensures c.spread-4.ensures w.in-None.ensures (λ lt. absurd (omega arith)))
    ]
