-- `sum_tape`: refused as the summary is, then 16; else the rows of the entry's type are marked and added up. Assumes nothing.
use Prim.Native.Nat.{◌/◌, ◌≤◌, ◌<◌}
use mathlib.Core.Path.{◌≡◌, refl, subst}
use lib.ListN.{length}
use native.Mathlib.Omega.{arith}
use Rattle.std.specs.Prelude.{Ok, Err}
use Rattle.std.proofs.lemmas.Result.{err_from_is_err_and}
use Rattle.paper.specs.Widths.{format_of}
use Rattle.paper.proofs.Refusals.{numbered}
use Rattle.reshaping.specs.Reshaped.{summarised}
use Rattle.totals.specs.Tape.{sum_tape}
use Rattle.totals.specs.Told.{tape, summed}
use Rattle.totals.specs.Work.{HasEntry}
use Rattle.totals.proofs.Summing.{told-together, as_summarised, no_entry, has-entry, summed-up}
use Rattle.totals.proofs.sum_tape.Goals as goal
use Rattle.totals.proofs.sum_tape.Goals.{Else-shape-entry_bytes, After-sum_rows}

-- the entry is there
has : (c : Else-shape-entry_bytes) → HasEntry (format_of c.args.width) c.args.table.now c.args.shape.now c.args.entry
has c =
    let a = c.args in
    let summary = c.in_ok-summary in
    has-entry (format_of a.width) a.table.now a.shape.now a.entry (summarised (Ok summary.summary)) summary.ensures refl
    (subst (λ m. a.entry < length a.shape.now / m) c.entry_bytes.ensures c.if-shape-entry_bytes.false)

-- the rows that were marked, added up
told : (c : After-sum_rows) → summed c.sum_rows.result ≡ sum_tape (tape (format_of c.args.width) c.args.table.now c.args.shape.now c.args.entry)
told c =
    let a = c.args in
    let summary = c.in_ok-summary in
    summed-up (format_of a.width) a.table.now a.shape.now a.entry (summarised (Ok summary.summary)) summary.ensures refl
    (subst (λ m. a.entry < length a.shape.now / m) c.entry_bytes.ensures c.if-shape-entry_bytes.false)
    c.mark_rows.new.marks c.in_ok-mark_rows.ensures.1 (summed c.sum_rows.result) c.sum_rows.ensures

pub returns-in_err-summary-clause-result_value : goal.returns-in_err-summary-clause-result_value
returns-in_err-summary-clause-result_value c =
    let p = err_from_is_err_and c.from_residual.result c.from_residual.ensures.1 in
    let a = c.args in
    let e = c.in_err-summary.field-0.0 in
    rw (p.1, p.2) (as_summarised (format_of a.width) a.table.now a.shape.now a.entry (summarised (Err e)) c.in_err-summary.ensures (numbered e))

pub returns-then-shape-entry_bytes-clause-result_value : goal.returns-then-shape-entry_bytes-clause-result_value
returns-then-shape-entry_bytes-clause-result_value c =
    let a = c.args in
    let summary = c.in_ok-summary in
    no_entry (format_of a.width) a.table.now a.shape.now a.entry (summarised (Ok summary.summary)) summary.ensures refl
    (subst (λ m. length a.shape.now / m ≤ a.entry) c.entry_bytes.ensures c.if-shape-entry_bytes.true)

pub mark_rows-requires-clause-has_entry : goal.mark_rows-requires-clause-has_entry
mark_rows-requires-clause-has_entry c = (has (goal.at.mark_rows-requires-clause-has_entry c).Else-shape-entry_bytes, refl)

pub sum_rows-requires : goal.sum_rows-requires
sum_rows-requires c = (has (goal.at.sum_rows-requires c).Else-shape-entry_bytes, omega (arith, c.mark_rows.auto.marks))

pub returns-clause-result_value : goal.returns-clause-result_value
returns-clause-result_value c = told (goal.at.returns-clause-result_value c).After-sum_rows

pub returns-clause-unshown_value : goal.returns-clause-unshown_value
returns-clause-unshown_value c =
    let a = c.args in
    told-together (tape (format_of a.width) a.table.now a.shape.now a.entry) c.sum_rows.result
    (told (goal.at.returns-clause-unshown_value c).After-sum_rows)
