-- `put_list`: at first all bytes are to be written, each turn writes one, and in the end none is left. Assumes nothing.
use Rattle.std.proofs.Common.{arith, ◌≡◌, ◌+◌, take, drop, sym, ◌∙◌, subst}
use lib.ListN.{get_or, set, length-take, get_or-eq_default, drop_of_length-le}
use lib.Seq.{get_or-take}
use Rattle.paper.specs.Lists.{padded}
use Rattle.paper.proofs.Reread.{length-padded}
use Rattle.octets.proofs.Writing.{Writing, all_left, all_written, byte_written}
use Rattle.widths.proofs.Moving.{padded-at}
use Rattle.widths.proofs.records.put_list.Goals as goal
use Rattle.widths.proofs.records.put_list.Goals.{then-k-from, else-k-from}

pub loop-k-init : goal.loop-k-init
loop-k-init c = all_left c.args.new.now c.args.at _ _ (omega arith)

pub loop-k-preserved : goal.loop-k-preserved
loop-k-preserved c =
    let a = c.args in
    let k = c.loop-k.k in
    let first = take a.from a.r.now in
    let list = padded a.to first in
    let value : get_or first k 0 ≡ c.if-k-from.new = elim c.if-k-from.branch [
      | then-k-from w ↦ get_or-take a.from a.r.now k 0 w.if-k-from.true ∙ sym w.new-is
      | else-k-from w ↦ get_or-eq_default first 0 {n = k} (omega (arith, length-take a.from a.r.now, w.if-k-from.false)) ∙ sym w.new-is
    ] in
    subst (λ v. Writing a.new.now a.at list (set c.loop-k.new (a.at + k) v) (a.at + (k + 1)) (drop (k + 1) list))
    (padded-at a.to first k c.loop-k-test.true ∙ value)
    (byte_written k list c.loop-k.invariant (omega (arith, length-padded a.to first, c.loop-k-test.true)))

pub returns : goal.returns
returns c =
    let a = c.args in
    let first = take a.from a.r.now in
    all_written c.loop-k.invariant (drop_of_length-le (padded a.to first) {i = c.loop-k.k} (omega (arith, length-padded a.to first, c.loop-k-test.false)))
