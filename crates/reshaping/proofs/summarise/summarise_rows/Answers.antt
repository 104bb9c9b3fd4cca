-- `reshaping::summarise::summarise_rows` meets its contract. Assumes nothing.
use native.Mathlib.Omega.{arith}
use mathlib.Core.Path.{◌≡◌, sym, ◌∙◌}
use lib.ListN.{length}
use Rattle.std.proofs.lemmas.Result.{err_from_is_err_and}
use Rattle.paper.specs.Format.{most_lines}
use Rattle.paper.specs.Refusals.{refusal_number, refusal_place}
use Rattle.shapes.specs.Work.{Ready, work_of}
use Rattle.reshaping.proofs.Answers.{summary_refused, summary_full, summary_given}
use Rattle.reshaping.proofs.Paper.{length-is}
use Rattle.reshaping.proofs.Summed.{counted_here, different_fits, summed, count_fits, count_exceeds}
use borrow.Author.Rules.{rules}
use Rattle.reshaping.proofs.summarise.summarise_rows.Goals as goal
use Rattle.reshaping.proofs.summarise.summarise_rows.Goals.{In_ok-prepared, After-count_lines-tally}

-- some table has the rows, and passes tests 1 to 7 with the shape
ready : (c : In_ok-prepared) →
    Ready c.args.f c.requires.1.0 c.args.shape.now (work_of c.in_ok-prepared.prepared c.args.levels.now c.args.types.now c.prepare.new.meetings c.prepare.new.ways)
ready c = c.in_ok-prepared.ensures c.requires.1.0 c.requires.1.1

lines_long : (c : After-count_lines-tally) → length c.count_lines-tally.result.lines ≡ 16
lines_long c = search rules

pub returns-in_err-prepared : goal.returns-in_err-prepared
returns-in_err-prepared c t rows =
    let p = err_from_is_err_and c.from_residual.result c.from_residual.ensures.1 in
    let e = c.in_err-prepared.field-0.0 in
    rw (p.1, p.2) (sym (summary_refused c.args.f t c.args.shape.now (refusal_number e) (refusal_place e) (c.in_err-prepared.ensures t rows)))

pub count_lines-tally-requires : goal.count_lines-tally-requires
count_lines-tally-requires c =
    let y = ready (goal.at.count_lines-tally-requires c).In_ok-prepared in
    (y.rows_are, y.shaped.sized, record { runs_long = search rules; list_long = search rules })

pub returns-then-total-gt4096 : goal.returns-then-total-gt4096
returns-then-total-gt4096 c t rows =
    let y = c.in_ok-prepared.ensures t rows in
    let over = count_exceeds (counted_here y c.count_lines-tally.ensures.counted_of) most_lines (omega arith) c.if-total-gt4096.true in
    sym (summary_full y (omega (arith, over, length-is y)))

pub figures_of-requires : goal.figures_of-requires
figures_of-requires c =
    let y = ready (goal.at.figures_of-requires c).In_ok-prepared in
    let counted = counted_here y c.count_lines-tally.ensures.counted_of in
    record {
      rows_in_bounds = (y.rows_are.types_long, y.rows_are.few, y.shaped.sized.few, search rules);
      by_index = different_fits y counted (count_fits counted most_lines (omega arith) c.if-total-gt4096.false);
    }

pub returns : goal.returns
returns c t rows =
    let y = c.in_ok-prepared.ensures t rows in
    let counted = counted_here y c.count_lines-tally.ensures.counted_of in
    let le = count_fits counted most_lines (omega arith) c.if-total-gt4096.false in
    summed y counted le c.figures_of.result (lines_long (goal.at.returns c).After-count_lines-tally) c.figures_of.ensures
    ∙ sym (summary_given y (omega (arith, le, length-is y)))
