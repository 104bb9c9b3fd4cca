-- `build::build_index` meets its contract. Assumes nothing.
use mathlib.Core.Logic.{inl, inr}
use Rattle.std.proofs.lemmas.Result.{err_from_is_err_and}
use Rattle.paper.specs.Refusals.{refusal_number, refusal_place}
use Rattle.tables.proofs.Examine.{tests_refuse}
use Rattle.indexes.proofs.Built.{refused-table, builds_refused, builds_short, builds_given}
use Rattle.indexes.proofs.Passed.{passed}
use Rattle.indexes.proofs.build.build_index.Goals as goal

pub returns-in_err-rows : goal.returns-in_err-rows
returns-in_err-rows c =
    let p = err_from_is_err_and c.from_residual.result c.from_residual.ensures.1 in
    let e = c.in_err-rows.field-0.0 in
    rw (p.1, p.2) (builds_refused _ _ _ _ e (refused-table _ _ _ _ (refusal_number e) (refusal_place e) (tests_refuse _ _ e c.in_err-rows.ensures)))

pub returns-then-last-rows : goal.returns-then-last-rows
returns-then-last-rows c =
    let p = passed c.requires c.in_ok-rows.rows c.in_ok-rows.ensures in
    builds_short _ _ _ _ _ p.1 p.0 (inl c.if-last-rows.true)

pub returns-then-next-rows : goal.returns-then-next-rows
returns-then-next-rows c =
    let p = passed c.requires c.in_ok-rows.rows c.in_ok-rows.ensures in
    builds_short _ _ _ _ _ p.1 p.0 (inr c.if-next-rows.true)

pub put_index-requires : goal.put_index-requires
put_index-requires c =
    let p = passed c.requires c.in_ok-rows.rows c.in_ok-rows.ensures in
    (p.1, c.requires.shallow, c.if-last-rows.false, c.if-next-rows.false)

pub returns : goal.returns
returns c =
    let p = passed c.requires c.in_ok-rows.rows c.in_ok-rows.ensures in
    builds_given _ _ _ _ _ p.1 p.0 _ _ c.if-last-rows.false c.if-next-rows.false c.put_index.ensures
