-- One label more is put, or none is left. Assumes nothing.
use native.Mathlib.Omega.{arith}
use mathlib.Core.Path.{refl, ◌∙◌, ap}
use lib.ListN.{length, get_or}
use lib.Seq.{length-sets}
use Rattle.paper.specs.Format.{bytes}
use Rattle.typed.proofs.Backwards.{filling_start, filling_up, filling_end}
use Rattle.typed.proofs.records.entry_record.Goals as goal

pub loop-j-init : goal.loop-j-init
loop-j-init c =
    let a = c.args in
    let n = c.type_size-size in record {
      long = refl;
      filling = filling_start a.parents.now a.labels.now a.count a.level a.k n.result n.ensures.1 c.requires.3;
    }

pub loop-j-preserved : goal.loop-j-preserved
loop-j-preserved c =
    let a = c.args in
    let l = c.loop-j in
    let put = c.put_word.ensures in record {
      long = ap length put ∙ length-sets l.r _ (bytes 2 (get_or a.labels.now l.q 0)) ∙ l.invariant.long;
      filling = filling_up a.parents.now a.labels.now a.count a.level a.k l.r l.q l.j l.invariant.filling c.if-count-q.false c.wide-q.ensures.0 put;
    }

pub returns : goal.returns
returns c =
    let a = c.args in
    let l = c.loop-j in
    filling_end a.parents.now a.labels.now a.count a.level a.k l.r l.q l.j l.invariant.filling (omega arith) a.f c.requires.0
