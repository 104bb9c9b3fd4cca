-- `put_summaries`: a type's turn, and all summaries in the end. Assumes nothing.
use native.Mathlib.Omega.{arith}
use mathlib.Core.Path.{refl, ◌∙◌}
use lib.ListN.{length-set}
use Rattle.paper.specs.Tables as Tables
use Rattle.adorned.proofs.All.{rest-step, start_length, listed, fill_step, fill_end}
use Rattle.adorned.proofs.put_summaries.Goals as goal

pub loop-k-init : goal.loop-k-init
loop-k-init c =
    let none = c.requires.2 in
    record { long = start_length c.args.all.now none; zeros = none; first = λ f t read. refl }

pub loop-k-preserved : goal.loop-k-preserved
loop-k-preserved c =
    let v = c.loop-k in
    let r = c.summary_of in
    record {
      long = length-set v.all v.k r.result ∙ v.invariant.long;
      zeros = rest-step v.all v.k r.result (omega arith) v.invariant.zeros;
      first = λ f t read. fill_step (Tables.rows f t) v.all v.k r.result (omega (arith, read.told.count-is)) (omega arith) (v.invariant.first f t read)
          (r.ensures f t _ _ _ read.levelled.typed (listed read c.type_levels-depths.result c.type_levels-depths.ensures v.k _ _ _
          c.loop-k-test.true c.wide-p.ensures.0 c.wide16-a.ensures.0 c.wide-l.ensures.0));
    }

pub returns : goal.returns
returns c f t read =
    let v = c.loop-k in
    fill_end (Tables.rows f t) v.all v.k _ read.told.count-is (omega arith) c.loop-k-test.false (v.invariant.first f t read) v.invariant.zeros
