-- One label further down, or no listed type there. Assumes nothing.
use native.Mathlib.Omega.{arith}
use mathlib.Core.Path.{◌∙◌, ap}
use Rattle.std.specs.Prelude.{unwrap_or}
use Rattle.paper.specs.Format.{words}
use Rattle.paper.proofs.Tables.{length-words}
use Rattle.shapes.proofs.Down.{walk_step, walk-stop}
use Rattle.shapes.proofs.entry_types.type_of.Goals as goal

pub returns-in_err-p-clause-number : goal.returns-in_err-p-clause-number
returns-in_err-p-clause-number c ts told =
    let a = c.args in
    let l = c.loop-k in
    let long = length-words a.f.levels a.entry.now 4 in
    let label = c.component-a in
    ap (λ o. unwrap_or o a.count) c.from_residual.ensures
    ∙ walk-stop a.parents.now a.labels.now a.count (words a.f.levels a.entry.now 4) l.k l.p label.result l.invariant.walked
    (omega (arith, long)) label.ensures.0 c.in_err-p.ensures a.size (omega arith) (omega (arith, long)) ts told

pub loop-k-preserved : goal.loop-k-preserved
loop-k-preserved c =
    let a = c.args in
    let l = c.loop-k in
    let label = c.component-a in
    let found = c.in_ok-p.ensures in record {
      few = omega (arith, found.within);
      listed = λ lt. found.within;
      walked = walk_step a.parents.now a.labels.now a.count (words a.f.levels a.entry.now 4) l.k l.p label.result l.invariant.walked
          (omega (arith, length-words a.f.levels a.entry.now 4)) label.ensures.0 c.in_ok-p.p found;
    }
