-- `test::read_indexed` meets its contract. Assumes nothing.
use Rattle.std.proofs.lemmas.Result.{err_from_is_err_and}
use Rattle.indexes.proofs.Tests.{unread, shallow_rows}
use Rattle.indexes.proofs.test.read_indexed.Goals as goal

pub returns-in_err-read : goal.returns-in_err-read
returns-in_err-read c =
    let p = err_from_is_err_and c.from_residual.result c.from_residual.ensures.1 in
    rw (p.1, p.2) (unread _ _ _ _ _ _ c.in_err-read.field-0.0 c.in_err-read.ensures)

pub test_lists-requires : goal.test_lists-requires
test_lists-requires c = (c.in_ok-read.ensures.1.rows_are, shallow_rows c.requires.0 c.in_ok-read.ensures.1)
