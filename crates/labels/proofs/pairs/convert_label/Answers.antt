-- `pairs::convert_label`: the first pair that has the label tells what it becomes. Assumes nothing.
use mathlib.Core.Path.{◌∙◌}
use borrow.Author.Rules.{rules}
use Rattle.labels.proofs.Listed.{counted, found_within, converts_found, converts_stays}
use Rattle.labels.proofs.pairs.convert_label.Goals as goal

pub overflow_mul-i : goal.overflow_mul-i
overflow_mul-i c =
    let count = counted c.args.list.now in
    let lt = found_within c.args.list.now _ c.args.x c.count_pairs.ensures c.in-Some.i c.in-Some.ensures in
    search rules

pub overflow_add-i : goal.overflow_add-i
overflow_add-i c =
    let count = counted c.args.list.now in
    let lt = found_within c.args.list.now _ c.args.x c.count_pairs.ensures c.in-Some.i c.in-Some.ensures in
    search rules

pub returns-in-Some : goal.returns-in-Some
returns-in-Some c =
    let e = c.number_at.ensures in (e.0 ∙ converts_found c.args.list.now _ c.args.x c.count_pairs.ensures c.in-Some.i c.in-Some.ensures, e.1)

pub returns-in-None : goal.returns-in-None
returns-in-None c = (converts_stays c.args.list.now _ c.args.x c.count_pairs.ensures c.in-None.ensures, c.requires)
