-- `moves::move_table`: what the tests refuse, else what is left to be tested of the rows. Assumes nothing.
use native.Mathlib.Omega.{arith}
use mathlib.Core.Path.{◌≡◌, sym, ◌∙◌, ap}
use Rattle.std.proofs.lemmas.Result.{err_from_is_err_and}
use Rattle.paper.specs.Format.{row_bytes, whole}
use Rattle.paper.specs.Tables.{rows}
use Rattle.paper.specs.Calls.{given, tests1_3}
use Rattle.paper.specs.Widths.{table_to, row_deep, move_table}
use Rattle.paper.specs.Refusals.{refusal_number, refusal_place}
use Rattle.paper.proofs.Calls.{count-rows, few_rows, passed1_3}
use Rattle.tables.proofs.Examine.{tests_refuse, tests_give}
use Rattle.widths.proofs.Answers.{file_refused, table_tested}
use Rattle.widths.proofs.moves.move_table.Goals as goal
use Rattle.widths.proofs.moves.move_table.Goals.{In_ok-rows}

-- the tests are passed
passed : (c : In_ok-rows) →
    (tests1_3 c.args.f c.args.table.now ≡ given (rows c.args.f c.args.table.now)) × (c.in_ok-rows.rows ≡ whole (row_bytes c.args.f) c.args.table.now)
passed c = tests_give c.args.f c.args.table.now c.in_ok-rows.rows c.in_ok-rows.ensures

pub returns-in_err-rows : goal.returns-in_err-rows
unfolding move_table
returns-in_err-rows c =
    let a = c.args in
    let t = a.table.now in
    let p = err_from_is_err_and c.from_residual.result c.from_residual.ensures.1 in
    let e = c.in_err-rows.field-0.0 in
    rw (p.1, p.2)
    (file_refused (tests1_3 a.f t) (row_deep a.g) (table_to a.f a.g t) a.new.now (refusal_number e) (refusal_place e)
    (tests_refuse a.f t e c.in_err-rows.ensures))

pub move_tested-requires : goal.move_tested-requires
move_tested-requires c =
    let f = c.args.f in
    let t = c.args.table.now in
    let w = c.row_bytes.ensures in
    let (tests, counted) = passed (goal.at.move_tested-requires c).In_ok-rows in
    record {
      served = (c.requires.0, c.requires.1, omega (arith, w), omega (arith, w));
      count_value = (counted ∙ ap (λ n. whole n t) (sym w), omega (arith, counted, count-rows f t, few_rows f t (passed1_3 f t (rows f t) tests).2));
    }

pub returns : goal.returns
returns c =
    let a = c.args in
    let (tests, counted) = passed (goal.at.returns c).In_ok-rows in
    table_tested a.f a.g _ _ a.table.now a.new.now _ _ c.move_tested.ensures tests c.row_bytes.ensures counted
