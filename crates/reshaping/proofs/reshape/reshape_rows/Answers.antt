-- `reshaping::reshape::reshape_rows` meets its contract. Assumes nothing.
use Prim.Native.Nat.{◌≤◌}
use native.Mathlib.Omega.{arith}
use lib.ListN.{length}
use Rattle.std.proofs.lemmas.Result.{err_from_is_err_and}
use Rattle.paper.specs.Tables.{rows}
use Rattle.paper.specs.Closeness.{nodes}
use Rattle.paper.specs.NewTable.{lines}
use Rattle.paper.specs.Calls.{room_in}
use Rattle.paper.specs.Refusals.{refusal_number, refusal_place}
use Rattle.paper.specs.declared.refusal.Refusal.TheVariants.{TooManyLines}
use Rattle.shapes.specs.Tests.{shape_in}
use Rattle.shapes.specs.Work.{Ready, work_of}
use Rattle.reshaping.proofs.Answers.{reshape-refused, reshape_full}
use Rattle.reshaping.proofs.Paper.{length-is}
use Rattle.reshaping.proofs.Summed.{counted_here, count_fits, count_exceeds}
use Rattle.reshaping.proofs.Lent.{reshapes, leaves, runs-named, next_as, left_at_front, fits, lines_left, table_left, sources_left_lem}
use borrow.Author.Rules.{rules}
use Rattle.reshaping.proofs.reshape.reshape_rows.Goals as goal
use Rattle.reshaping.proofs.reshape.reshape_rows.Goals.{In_ok-prepared}

-- the table passes tests 1 to 7 with the shape
ready : (c : In_ok-prepared) →
    Ready c.args.f c.args.table.now c.args.shape.now (work_of c.in_ok-prepared.prepared c.args.levels.now c.args.types.now c.prepare.new.meetings c.prepare.new.ways)
ready c = c.in_ok-prepared.ensures c.args.table.now c.requires.served.1

pub returns-in_err-prepared : goal.returns-in_err-prepared
returns-in_err-prepared c =
    let a = c.args in
    let p = err_from_is_err_and c.from_residual.result c.from_residual.ensures.1 in
    let e = c.in_err-prepared.field-0.0 in
    rw (p.1, p.2)
    (leaves c.requires.served.0 _ _ a.new.now a.sources.now e
    (reshape-refused a.f a.table.now a.shape.now (refusal_number e) (refusal_place e) (c.in_err-prepared.ensures a.table.now c.requires.served.1) a.new.now a.sources.now))

pub count_lines-tally-requires : goal.count_lines-tally-requires
count_lines-tally-requires c =
    let y = ready (goal.at.count_lines-tally-requires c).In_ok-prepared in
    (y.rows_are, y.shaped.sized, record { runs_long = search rules; list_long = search rules })

pub returns-then-room-total : goal.returns-then-room-total
returns-then-room-total c =
    let y = ready (goal.at.returns-then-room-total c).In_ok-prepared in
    let a = c.args in
    let r = c.room_in-room in
    let over = count_exceeds (counted_here y c.count_lines-tally.ensures.counted_of) r.result (omega (arith, r.ensures)) c.if-room-total.true in
    leaves c.requires.served.0 _ _ a.new.now a.sources.now TooManyLines (reshape_full y a.new.now a.sources.now (omega (arith, over, length-is y, r.ensures)))

pub write_table-lines-requires : goal.write_table-lines-requires
write_table-lines-requires c =
    let y = ready (goal.at.write_table-lines-requires c).In_ok-prepared in
    let r = c.room_in-room in
    let few = count_fits (counted_here y c.count_lines-tally.ensures.counted_of) r.result (omega (arith, r.ensures)) c.if-room-total.false in
    let left = c.count_lines-tally.new in
    let named = runs-named y {runs = left.runs} {lists = left.shows} c.count_lines-tally.ensures.runs
    (record { runs_long = search rules; list_long = search rules }) in
    record {
      runs_named = named;
      next_rows = next_as y c.requires.served.1 c.args.next.now c.requires.next_rows;
      fits = fits y _ _ (omega (arith, r.ensures, length-is y, few));
    }

pub returns : goal.returns
returns c =
    let y = ready (goal.at.returns c).In_ok-prepared in
    let r = c.room_in-room in
    let few = count_fits (counted_here y c.count_lines-tally.ensures.counted_of) r.result (omega (arith, r.ensures)) c.if-room-total.false in
    let a = c.args in
    let new = a.new.now in
    let sources = a.sources.now in
    let all = lines (nodes (rows a.f a.table.now)) (shape_in a.f a.table.now a.shape.now) a.f.levels in
    let le : length all ≤ room_in a.f new sources = omega (arith, r.ensures, length-is y, few) in
    let (ec, (et, ep)) = left_at_front c.write_table-lines.ensures in
    let er = lines_left y new sources le c.write_table-lines.result ec in
    reshapes c.requires.served.0 _ _ _ er (table_left y new sources le _ et) (sources_left_lem y new sources le _ ep)
