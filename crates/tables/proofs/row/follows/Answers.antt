-- `row::follows`: each branch is one way to follow, or to break it. Assumes nothing.
use mathlib.Core.Path.{sym, ◌∙◌}
use Rattle.tables.proofs.Follows.{Read, rows_longer, rows_apart, rows_child, rows_next}
use Rattle.tables.proofs.row.follows.Goals as goal
use Rattle.tables.proofs.row.follows.Goals.{After-wide-b}

-- the two rows as they are read
read : (c : After-wide-b) → Read c.args.f c.args.before.now c.args.row.now c.wide-a.result c.wide-b.result
read c =
    record {
      fits_x = c.requires.before_bound.0;
      fits_y = c.requires.before_bound.1;
      some_y = c.requires.before_bound.2;
      level_x = c.wide-a.ensures.0;
      level_y = c.wide-b.ensures.0;
    }

pub returns-then-a-b : goal.returns-then-a-b
returns-then-a-b c = rows_longer (read (goal.at.returns-then-a-b c).After-wide-b) c.if-a-b.true

pub returns-then-not-agree : goal.returns-then-not-agree
returns-then-not-agree c =
    rows_apart (read (goal.at.returns-then-not-agree c).After-wide-b) c.if-a-b.false (sym c.agree.ensures ∙ c.if-not-agree.true)

pub returns-then-a-b-2 : goal.returns-then-a-b-2
returns-then-a-b-2 c =
    rows_child (read (goal.at.returns-then-a-b-2 c).After-wide-b) (sym c.agree.ensures ∙ c.if-not-agree.false) c.if-a-b.false c.if-a-b-2.true
    c.component-last.result c.component-last.ensures.0

pub returns : goal.returns
returns c =
    rows_next (read (goal.at.returns c).After-wide-b) (sym c.agree.ensures ∙ c.if-not-agree.false) c.if-a-b-2.false
    c.component-last.result c.component.result c.component-last.ensures.0 c.component.ensures.0
