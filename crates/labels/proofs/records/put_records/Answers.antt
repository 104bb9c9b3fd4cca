-- `records::put_records`: the records from each on are still to be written. Assumes nothing.
use Prim.Native.Nat.{◌*◌}
use mathlib.Core.Path.{sym, ◌∙◌, ap}
use lib.ListN.{length}
use lib.Seq.{sets}
use Rattle.paper.specs.Labels.{pairs, record_with}
use Rattle.octets.proofs.Laws.{record_in}
use Rattle.tables.proofs.Walks.{going_start, going_on, going_end}
use Rattle.labels.proofs.Written.{as_long}
use borrow.Author.Rules.{rules}
use Rattle.labels.proofs.records.put_records.Goals as goal

pub loop-i-init : goal.loop-i-init
loop-i-init c = let a = c.args in going_start (record_with (pairs a.list.now) a.from a.n) a.w a.w a.count a.b.now a.new.now

pub overflow_mul-w : goal.overflow_mul-w
overflow_mul-w c = let fits = record_in c.args.w c.loop-i.i c.args.count (length c.args.new.now) c.loop-i-test.true c.requires.3 in search rules

pub put_record-requires : goal.put_record-requires
put_record-requires c =
    let fits = record_in c.args.w c.loop-i.i c.args.count (length c.args.new.now) c.loop-i-test.true c.requires.3 in
    let long = c.loop-i.invariant.as_long in
    search rules

pub loop-i-preserved : goal.loop-i-preserved
loop-i-preserved c =
    let a = c.args in
    let own = c.«record».ensures in
    let with = record_with (pairs a.list.now) a.from a.n in
    going_on with a.w a.w a.count a.b.now a.new.now c.loop-i.new c.loop-i.i c.loop-i.invariant
    (as_long (pairs a.list.now) a.from a.n a.w c.requires.0) c.loop-i-test.true (sym (ap length own.0) ∙ own.1) _
    (c.put_record.ensures ∙ ap (λ x. sets c.loop-i.new (a.w * c.loop-i.i) (with x)) own.0)

pub returns : goal.returns
returns c =
    let a = c.args in
    going_end (record_with (pairs a.list.now) a.from a.n) a.w a.w a.count a.b.now a.new.now c.loop-i.new c.loop-i.i c.loop-i.invariant c.loop-i-test.false
