-- `test::test_lists` meets its contract. Assumes nothing.
use Rattle.indexes.proofs.Tests.{holds_short_last, holds_short, holds_wrong, holds_right}
use Rattle.indexes.proofs.test.test_lists.Goals as goal

pub returns-then-last-rows : goal.returns-then-last-rows
returns-then-last-rows c = holds_short_last _ _ _ _ _ c.if-last-rows.true

pub returns-then-next-rows : goal.returns-then-next-rows
returns-then-next-rows c = holds_short _ _ _ _ _ c.if-next-rows.true

pub returns-in-Some : goal.returns-in-Some
returns-in-Some c =
    holds_wrong _ _ _ _ _ c.if-last-rows.false c.if-next-rows.false _ _ c.wrong_last-in_last.ensures c.wrong_next-in_next.ensures c.in-Some.wrong c.in-Some.ensures

pub returns-in-None : goal.returns-in-None
returns-in-None c = holds_right _ _ _ _ _ c.if-last-rows.false c.if-next-rows.false _ _ c.wrong_last-in_last.ensures c.wrong_next-in_next.ensures c.in-None.ensures
