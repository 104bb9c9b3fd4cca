-- `partners::edges::group_from`: the edge of one entry more is put. Assumes nothing.
use Rattle.std.proofs.Common.{◌+◌, arith, refl, ap}
use Rattle.shapes.specs.Shape.{type_of}
use Rattle.partners.proofs.Groups.{has_edge, no_edge, walking_edge, walking_none, filling_more}
use Rattle.partners.proofs.edges.group_from.Goals.{then-c-shape, else-c-shape}
use Rattle.partners.proofs.edges.group_from.Goals as goal

pub loop-e-preserved : goal.loop-e-preserved
loop-e-preserved c =
    let s = c.args.shape in
    let entry = c.args.first + c.loop-e.e in
    elim c.if-c-shape.branch [
      | then-c-shape w ↦
          let edge = has_edge s entry w.if-c-shape.true in
          rw (w.bounds-is, w.over-is, w.own-is) (filling_more _ _ (omega arith) c.loop-e.invariant _ _ _ (walking_edge s entry w.run_bound.ensures edge.0 edge.1
          (ap (type_of s) w.wide.ensures.0) refl))
      | else-c-shape w ↦
          rw (w.bounds-is, w.over-is, w.own-is) (filling_more _ _ (omega arith) c.loop-e.invariant _ _ _ (walking_none s entry (no_edge s entry w.if-c-shape.false)))
    ]
