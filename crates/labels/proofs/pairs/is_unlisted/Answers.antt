-- `pairs::is_unlisted`: a label up to the largest is not, one above it where no pair has it. Assumes nothing.
use mathlib.Core.Path.{◌∙◌}
use borrow.Author.Tests.{le-ltb}
use Rattle.labels.proofs.Listed.{flipped, unlisted-at, unlisted-small}
use Rattle.labels.proofs.pairs.is_unlisted.Goals as goal

pub returns-then-f-x : goal.returns-then-f-x
returns-then-f-x c =
    flipped _ _ c.is_none.ensures ∙ unlisted-at c.args.list.now _ c.args.x c.count_pairs.ensures c.args.f c.if-f-x.true _ c.find.ensures

pub returns-else-f-x : goal.returns-else-f-x
returns-else-f-x c = le-ltb _ _ c.if-f-x.false ∙ unlisted-small c.args.f _ c.args.x c.if-f-x.false
