-- `judging::lone::first_lone`: the answer is still to come from the entry, the row and the candidate on. Assumes nothing.
use Rattle.std.proofs.Common.{◌≡◌, ◌-◌, ◌≤◌, ◌<◌}
use Rattle.shapes.specs.Shape.{type_of, parent_of, edge_of}
use Rattle.partners.specs.Edges.{MetBefore}
use Rattle.judging.specs.declared.verdict.Verdict.TheVariants.{Kept}
use Rattle.judging.proofs.Search.{Candidates, entries_from, Done}
use Rattle.judging.proofs.lone.first_lone.Given as goal

abbrev pub invariant-loop-j : goal.invariant-loop-j
invariant-loop-j l = Candidates l.levels l.types l.rows (edge_of l.shape l.c) (type_of l.shape (parent_of l.shape l.c)) l.r l.j

abbrev pub decreases-loop-j : goal.decreases-loop-j
decreases-loop-j l = l.rows - l.j

abbrev pub invariant-rows : goal.invariant-rows
invariant-rows l = Done l.levels l.types l.rows l.shape l.c l.j l.r (entries_from l.levels l.types l.rows l.shape 1) × (l.lone ≡ Kept)

abbrev pub invariant-entries : goal.invariant-entries
invariant-entries l =
    (1 ≤ l.c) × (l.c ≤ l.shape.entries)
    × (entries_from l.levels l.types l.rows l.shape l.c ≡ entries_from l.levels l.types l.rows l.shape 1)
    × (l.c < l.shape.entries → MetBefore l.levels l.types l.rows l.shape l.c l.first)
    × (l.lone ≡ Kept)
