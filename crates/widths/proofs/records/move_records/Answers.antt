-- `records::move_records`: the records from each one on are still to be written. Assumes nothing.
use Prim.Native.Nat.{ℕ, ◌+◌, ◌*◌, ◌≤◌, ◌<◌}
use native.Mathlib.Omega.{arith}
use mathlib.Core.Path.{◌≡◌, sym, ◌∙◌, ap, ap₂}
use lib.ListN.{length}
use lib.Seq.{sets}
use Rattle.octets.proofs.Laws.{record_in}
use Rattle.tables.proofs.Rows.{row_in}
use Rattle.tables.proofs.Walks.{going_start, going_on, going_end}
use Rattle.widths.specs.Moves.{fitted}
use Rattle.widths.proofs.Moving.{fitted_as}
use borrow.Author.Rules.{rules}
use Rattle.widths.proofs.records.move_records.Goals as goal

-- The moved record lies within what is lent.
room : (each i count long m : ℕ) → i < count → each ≡ m → m * count ≤ long → each * i + each ≤ long
room each i count long m lt e fits = record_in each i count long lt (omega (arith, ap (λ n. n * count) e, fits))

pub loop-i-init : goal.loop-i-init
loop-i-init c = let a = c.args in going_start (fitted a.from a.to) a.w _ a.count a.b.now a.new.now

pub record-requires : goal.record-requires
record-requires c = row_in c.args.w c.loop-i.i c.args.b.now (omega (arith, c.requires.count_value.0, c.loop-i-test.true))

pub overflow_mul-each : goal.overflow_mul-each
overflow_mul-each c =
    let fits = room c.moved_bytes-each.result c.loop-i.i c.args.count (length c.args.new.now) _ c.loop-i-test.true c.moved_bytes-each.ensures c.requires.count_value.1 in
    search rules

pub move_record-requires : goal.move_record-requires
move_record-requires c =
    let r = c.«record».ensures in
    let fits = room c.moved_bytes-each.result c.loop-i.i c.args.count (length c.args.new.now) _ c.loop-i-test.true c.moved_bytes-each.ensures c.requires.count_value.1 in
    (omega (arith, r.1, c.requires.from_le_w.0), omega (arith, r.1, fits, c.moved_bytes-each.ensures, c.loop-i.invariant.as_long))

pub loop-i-preserved : goal.loop-i-preserved
loop-i-preserved c =
    let a = c.args in
    let own = c.«record».ensures in
    let put = c.move_record.ensures
    ∙ ap₂ (λ n x. sets c.loop-i.new (n * c.loop-i.i) (fitted a.from a.to x)) c.moved_bytes-each.ensures own.0 in
    going_on (fitted a.from a.to) a.w _ a.count a.b.now a.new.now c.loop-i.new c.loop-i.i c.loop-i.invariant
    (fitted_as a.w a.from a.to) c.loop-i-test.true (sym (ap length own.0) ∙ own.1) _ put

pub returns : goal.returns
returns c =
    let a = c.args in
    going_end (fitted a.from a.to) a.w _ a.count a.b.now a.new.now c.loop-i.new c.loop-i.i c.loop-i.invariant c.loop-i-test.false
