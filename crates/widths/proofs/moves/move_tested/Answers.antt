-- `moves::move_tested`: each test decides one refusal, then the records are written. Assumes nothing.
use Prim.Native.Nat.{◌+◌, ◌*◌, ◌≤◌}
use native.Mathlib.Nat.{mul-le-mul}
use native.Mathlib.Omega.{arith}
use mathlib.Core.Path.{◌≡◌, sym, ◌∙◌, ap}
use lib.ListN.{length}
use lib.Seq.{sets}
use Rattle.paper.specs.Format.{most_rows}
use Rattle.paper.specs.Widths.{records_to}
use Rattle.octets.specs.Served.{most_bytes}
use Rattle.widths.proofs.Moving.{records_to_lem, records-length}
use Rattle.widths.proofs.Answers.{tested_deep, tested_short, tested_written}
use borrow.Author.Rules.{rules}
use Rattle.widths.proofs.moves.move_tested.Goals as goal
use Rattle.widths.proofs.moves.move_tested.Goals.{After-moved_bytes}

-- so many bytes are asked
asked : (c : After-moved_bytes) →
    let a = c.args in
    length (records_to a.f a.g a.w a.b.now) ≡ c.moved_bytes.result * a.count
asked c =
    let a = c.args in
    records-length a.f a.g a.w a.b.now _ _ a.count c.entry_bytes-from.ensures c.entry_bytes-to.ensures c.requires.count_value.0
    ∙ ap (λ n. n * a.count) (sym c.moved_bytes.ensures)

pub returns-in-Some : goal.returns-in-Some
returns-in-Some c =
    let a = c.args in
    tested_deep a.f a.g a.w a.count a.b.now a.new.now c.in-Some.deep c.in-Some.ensures

pub overflow_mul-moved_bytes : goal.overflow_mul-moved_bytes
overflow_mul-moved_bytes c =
    let each : c.moved_bytes.result ≤ most_bytes + most_bytes = search rules in
    let fits : c.moved_bytes.result * c.args.count ≤ (most_bytes + most_bytes) * most_rows = mul-le-mul each c.requires.count_value.1 in
    search rules

pub returns-then-new-moved_bytes : goal.returns-then-new-moved_bytes
returns-then-new-moved_bytes c =
    let a = c.args in
    tested_short a.f a.g a.w a.count a.b.now a.new.now c.in_default.ensures
    (omega (arith, asked (goal.at.returns-then-new-moved_bytes c).After-moved_bytes, c.if-new-moved_bytes.true))

pub move_records-requires : goal.move_records-requires
move_records-requires c =
    let room = ap (λ n. n * c.args.count) c.moved_bytes.ensures in
    search rules

pub returns : goal.returns
returns c =
    let a = c.args in
    let written = records_to_lem a.f a.g a.w a.b.now _ _ a.count c.entry_bytes-from.ensures c.entry_bytes-to.ensures c.requires.count_value.0 in
    tested_written a.f a.g a.w a.count a.b.now a.new.now c.in_default.ensures
    (omega (arith, asked (goal.at.returns c).After-moved_bytes, c.if-new-moved_bytes.false)) _
    (c.move_records.ensures ∙ ap (sets a.new.now 0) written)
