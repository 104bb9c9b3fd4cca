-- `lent::adorn`: the figures are computed by value, and stored at the front of the lent summaries. Assumes nothing.
use Rattle.std.proofs.Common.{◌∙◌, ap, map}
use Rattle.std.proofs.lemmas.Result.{err_from_is_err_and}
use Rattle.adorned.specs.Lent.{told}
use Rattle.adorned.proofs.Calls.{says_read}
use Rattle.adorned.proofs.Answers.{answer, left, refusal_answered, all_left}
use Rattle.adorned.proofs.lent.adorn.Goals as goal

pub returns-in_err-read-clause-result_value : goal.returns-in_err-read-clause-result_value
returns-in_err-read-clause-result_value c =
    let p = err_from_is_err_and c.from_residual.result c.from_residual.ensures.1 in
    let a = c.args in
    rw (p.1, p.2) (refusal_answered a.f a.table.now a.summaries.now c.in_err-read.field-0.0 c.in_err-read.ensures)

pub returns-in_err-read-clause-summaries_after : goal.returns-in_err-read-clause-summaries_after
returns-in_err-read-clause-summaries_after c =
    let a = c.args in
    all_left a.f a.table.now a.summaries.now c.in_err-read.field-0.0 c.in_err-read.ensures

pub returns-clause-result_value : goal.returns-clause-result_value
returns-clause-result_value c =
    let a = c.args in
    let (all, many, of, is) = c.store_found.ensures in
    answer a.f a.table.now a.summaries.now _ many (says_read a.f a.table.now _ _ _ _ c.in_ok-read.ensures all of)

pub returns-clause-summaries_after : goal.returns-clause-summaries_after
returns-clause-summaries_after c =
    let a = c.args in
    let (all, many, of, is) = c.store_found.ensures in
    ap (map told) is ∙ left a.f a.table.now a.summaries.now _ many (says_read a.f a.table.now _ _ _ _ c.in_ok-read.ensures all of)
