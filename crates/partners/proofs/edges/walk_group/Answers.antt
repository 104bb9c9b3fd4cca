use Rattle.partners.proofs.Groups.{none_there}
use Rattle.partners.proofs.Found.{group_found, nothing_found}
use Rattle.partners.proofs.edges.walk_group.Goals as goal

pub returns-then-shape-first : goal.returns-then-shape-first
returns-then-shape-first c =
    let a = c.args in
    nothing_found a.levels.now a.types.now a.rows c.requires.0 (λ i lt. (c.type_inv.levels i).fits) a.shape
    (none_there a.shape a.first c.if-shape-first.true) c.nothing.ensures

pub returns : goal.returns
returns c =
    let a = c.args in
    group_found a.levels.now a.types.now a.rows c.requires.0 (λ i lt. (c.type_inv.levels i).fits) a.shape c.group_from-group.ensures c.walk_eight.ensures
