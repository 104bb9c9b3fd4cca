-- `convert::pair_kept`: each test decides one rule. Assumes nothing.
use mathlib.Core.Path.{◌∙◌, ap}
use mathlib.Core.Bool.{not}
use Rattle.labels.specs.Records.{standing}
use Rattle.labels.proofs.Listed.{counted, flipped}
use Rattle.labels.proofs.Kept.{too_small, too_large, no_label, new_too_large, new_occurs, old_twice, new_decides}
use borrow.Author.Rules.{rules}
use Rattle.labels.proofs.convert.pair_kept.Goals as goal

pub overflow_mul-i : goal.overflow_mul-i
overflow_mul-i c = let count = counted c.args.list.now in search rules

pub overflow_mul-i-2 : goal.overflow_mul-i-2
overflow_mul-i-2 c = let count = counted c.args.list.now in search rules

pub overflow_add-i : goal.overflow_add-i
overflow_add-i c = let count = counted c.args.list.now in search rules

pub returns-then-old-f : goal.returns-then-old-f
returns-then-old-f c =
    let a = c.args in
    too_small a.f (standing a.f a.table.now a.shape.now) a.list.now a.i _ _ c.requires.1
    c.number_at-old.ensures.0 c.number_at-new.ensures.0 c.if-old-f.true

pub returns-then-old-gt999 : goal.returns-then-old-gt999
returns-then-old-gt999 c =
    let a = c.args in
    too_large a.f (standing a.f a.table.now a.shape.now) a.list.now a.i _ _ c.requires.1
    c.number_at-old.ensures.0 c.number_at-new.ensures.0 c.if-old-f.false c.if-old-gt999.true

pub returns-then-new-lt1 : goal.returns-then-new-lt1
returns-then-new-lt1 c =
    let a = c.args in
    no_label a.f (standing a.f a.table.now a.shape.now) a.list.now a.i _ _ c.requires.1
    c.number_at-old.ensures.0 c.number_at-new.ensures.0 c.if-old-f.false c.if-old-gt999.false c.if-new-lt1.true

pub returns-then-f-new : goal.returns-then-f-new
returns-then-f-new c =
    let a = c.args in
    new_too_large a.f (standing a.f a.table.now a.shape.now) a.list.now a.i _ _ c.requires.1
    c.number_at-old.ensures.0 c.number_at-new.ensures.0 c.if-old-f.false c.if-old-gt999.false c.if-new-lt1.false c.if-f-new.true

pub returns-then-occurs : goal.returns-then-occurs
returns-then-occurs c =
    let a = c.args in
    new_occurs a.f (standing a.f a.table.now a.shape.now) a.list.now a.i _ _ c.requires.1
    c.number_at-old.ensures.0 c.number_at-new.ensures.0 c.if-old-f.false c.if-old-gt999.false c.if-new-lt1.false
    c.if-f-new.false _ c.occurs.ensures c.if-occurs.true

pub returns-then-is_none : goal.returns-then-is_none
returns-then-is_none c =
    let a = c.args in
    flipped _ _ c.is_none-then-is_none.ensures
    ∙ new_decides a.f (standing a.f a.table.now a.shape.now) a.list.now a.i _ _ c.requires.1
    c.number_at-old.ensures.0 c.number_at-new.ensures.0 c.if-old-f.false c.if-old-gt999.false c.if-new-lt1.false
    c.if-f-new.false _ c.occurs.ensures c.if-occurs.false _ c.find.ensures (c.is_none.ensures ∙ ap not c.if-is_none.true) _ c.find-then-is_none.ensures

pub returns-else-is_none : goal.returns-else-is_none
returns-else-is_none c =
    let a = c.args in
    c.if-is_none.false
    ∙ old_twice a.f (standing a.f a.table.now a.shape.now) a.list.now a.i _ _ c.requires.1
    c.number_at-old.ensures.0 c.number_at-new.ensures.0 c.if-old-f.false c.if-old-gt999.false c.if-new-lt1.false
    c.if-f-new.false _ c.occurs.ensures c.if-occurs.false _ c.find.ensures (c.is_none.ensures ∙ ap not c.if-is_none.false)
