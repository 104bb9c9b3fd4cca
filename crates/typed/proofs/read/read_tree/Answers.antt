-- `read::read_tree`: each test decides one refusal, then the entries are shaped. Assumes nothing.
use native.Mathlib.Omega.{arith}
use Rattle.std.proofs.lemmas.Result.{err_from_is_err_and}
use Rattle.paper.specs.Tables.{rows, types}
use Rattle.typed.proofs.Answers.{long_text, table-refused, text_refused, text_shaped, types-within, types-listed}
use borrow.Author.Rules.{rules}
use Rattle.typed.proofs.read.read_tree.Goals as goal

pub returns-in_err-read : goal.returns-in_err-read
returns-in_err-read c =
    let a = c.args in
    let p = err_from_is_err_and c.from_residual.result c.from_residual.ensures.1 in
    rw (p.1, p.2) (table-refused a.f c.requires.1 a.table.now a.text.now a.shape.now c.in_err-read.ensures)

pub returns-then-text-gt1536 : goal.returns-then-text-gt1536
returns-then-text-gt1536 c =
    let a = c.args in
    text_refused a.f c.requires.1 a.table.now a.text.now a.shape.now c.in_ok-read.ensures.1.given_is (long_text a.f a.text.now c.if-text-gt1536.true)

pub walk_text-requires : goal.walk_text-requires
walk_text-requires c =
    let few = c.in_ok-read.ensures.1.told.few in
    (c.requires.0, omega (arith, c.if-text-gt1536.false), (search rules, search rules, few))

pub returns-in_err-walked : goal.returns-in_err-walked
returns-in_err-walked c =
    let a = c.args in
    let p = err_from_is_err_and c.from_residual-in_err-walked.result c.from_residual-in_err-walked.ensures.1 in
    rw (p.1, p.2) (text_refused a.f c.requires.1 a.table.now a.text.now a.shape.now c.in_ok-read.ensures.1.given_is c.in_err-walked.ensures)

pub put_shape-requires : goal.put_shape-requires
put_shape-requires c =
    let few = c.in_ok-read.ensures.1.told.few in
    record { served = c.requires.0; count_in_bounds = (search rules, search rules, few) }

pub returns : goal.returns
returns c =
    let a = c.args in
    let read = c.in_ok-read.ensures.1 in
    let listed = types-listed read c.requires.0 in
    let walked = c.in_ok-walked.ensures in
    let ts = types (rows a.f a.table.now) in
    text_shaped a.f c.requires.1 a.table.now a.text.now a.shape.now read.given_is walked.entries walked.asked _
    (c.put_shape.ensures ts listed (types-within read) walked.entries
    (record { count-is = walked.count-is; levels_are = walked.levels_are; types_are = walked.types_are ts listed }))
