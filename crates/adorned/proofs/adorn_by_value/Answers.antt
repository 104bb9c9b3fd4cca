-- `adorn_by_value`: the rows that were read have their summaries. Assumes nothing.
use Rattle.adorned.proofs.Calls.{says_read}
use Rattle.std.proofs.lemmas.Result.{err_from_is_err_and}
use Rattle.adorned.proofs.adorn_by_value.Goals as goal

pub returns-in_err-read : goal.returns-in_err-read
returns-in_err-read c =
    let p = err_from_is_err_and c.from_residual.result c.from_residual.ensures.1 in
    rw (p.1, p.2) c.in_err-read.ensures

pub summaries_of-summaries-requires : goal.summaries_of-summaries-requires
summaries_of-summaries-requires c = let read = c.in_ok-read.ensures.0 in (read.rows_are, read.told.few)

pub returns : goal.returns
returns c = let a = c.args in says_read a.f a.table.now a.lent _ _ _ c.in_ok-read.ensures _ c.summaries_of-summaries.ensures
