-- One record more is put. Assumes nothing.
use native.Mathlib.Omega.{arith}
use mathlib.Core.Path.{subst}
use lib.ListN.{get_or}
use Rattle.typed.specs.Entries.{EntryIs}
use Rattle.typed.proofs.Back.{putting_on, putting_end}
use Rattle.typed.proofs.records.put_entries.Goals as goal

pub loop-e-preserved : goal.loop-e-preserved
loop-e-preserved c =
    let a = c.args in
    let l = c.loop-e in
    let w = c.entry_bytes-w in
    let own = c.entry_record-r.result in
    let known = c.requires.each_known l.e (omega arith) in
    let is = subst (λ k. EntryIs a.f a.parents.now a.labels.now a.count (get_or a.levels.now l.e 0) k own) c.wide16.ensures.0 c.entry_record-r.ensures in
    putting_on a.f a.parents.now a.labels.now a.count a.levels.now a.types.now a.entries w.result a.new.now l.new l.e l.invariant w.ensures
    (omega arith) c.requires.served.1 c.requires.served.2 known.1 own is c.put.ensures

pub returns : goal.returns
returns c =
    let a = c.args in
    putting_end a.f a.parents.now a.labels.now a.count a.levels.now a.types.now a.entries c.entry_bytes-w.result a.new.now c.loop-e.new c.loop-e.e
    c.loop-e.invariant (omega arith)
