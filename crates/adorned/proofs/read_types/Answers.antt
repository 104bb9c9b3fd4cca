-- `read_types`: each test decides one refusal. Assumes nothing.
use native.Mathlib.Omega.{arith}
use mathlib.Core.Path.{refl}
use Rattle.std.proofs.lemmas.Result.{err_from_is_err_and}
use Rattle.paper.specs.Refusals.{refusal_number, refusal_place}
use Rattle.adorned.proofs.Calls.{says-refused, says_short}
use Rattle.adorned.proofs.read_types.Goals as goal

pub returns-in_err-read : goal.returns-in_err-read
returns-in_err-read c =
    let p = err_from_is_err_and c.from_residual.result c.from_residual.ensures.1 in
    let e = c.in_err-read.field-0.0 in
    rw (p.1, p.2)
    (says-refused c.args.f c.args.table.now c.args.lent _ (refusal_number e) (refusal_place e) c.in_err-read.ensures
    (record { number_is = refl; place_is = refl; given_is = tt }))

pub returns-then-lent-count : goal.returns-then-lent-count
returns-then-lent-count c =
    let read = c.in_ok-read.ensures.1 in
    says_short c.args.f c.args.table.now c.args.lent _ read.given_is (omega (arith, c.if-lent-count.true, read.told.count-is))
    (record { number_is = refl; place_is = refl; given_is = tt })

pub returns : goal.returns
returns c = (c.in_ok-read.ensures.1, c.if-lent-count.false)
