-- `print::print_tree`: what the tests refuse, else the line's length decides, and then the line is written. Assumes nothing.
use mathlib.Core.Path.{◌≡◌, ◌∙◌, ap}
use lib.Seq.{sets}
use Rattle.std.proofs.lemmas.Result.{err_from_is_err_and}
use Rattle.paper.specs.Format.{entry_bytes, whole}
use Rattle.paper.specs.Shapes.{entries}
use Rattle.paper.specs.Calls.{given, tests5_6}
use Rattle.shapes.proofs.Examined.{tests_refuse, tests_give}
use Rattle.spelling.proofs.Answers.{front_is, shape-refused, too_short_lem, printed}
use Rattle.spelling.proofs.print.print_tree.Goals as goal
use Rattle.spelling.proofs.print.print_tree.Goals.{In_ok-entries}

-- the shape passes its tests, and its entries are counted
passed : (c : In_ok-entries) →
    (tests5_6 c.args.f c.args.shape.now ≡ given (entries c.args.f c.args.shape.now)) × (c.in_ok-entries.entries ≡ whole (entry_bytes c.args.f) c.args.shape.now)
passed c = tests_give _ _ _ c.in_ok-entries.ensures

pub returns-in_err-entries : goal.returns-in_err-entries
returns-in_err-entries c =
    let p = err_from_is_err_and c.from_residual.result c.from_residual.ensures.1 in
    rw (p.1, p.2) (shape-refused _ _ _ _ _ (tests_refuse _ _ c.in_err-entries.field-0.0 c.in_err-entries.ensures))

pub put_line-n-requires : goal.put_line-n-requires
put_line-n-requires c =
    let (passes, counted) = passed (goal.at.put_line-n-requires c).In_ok-entries in
    record { served = c.requires; counted = counted; passes = passes }

pub returns-then-text-n : goal.returns-then-text-n
returns-then-text-n c =
    let long = front_is c.put_line-n.ensures.0 c.put_line-n.ensures.1 in
    too_short_lem _ _ _ (passed (goal.at.returns-then-text-n c).In_ok-entries).0 _ long.0 c.if-text-n.true

pub returns : goal.returns
returns c =
    let front = front_is c.put_line-n.ensures.0 c.put_line-n.ensures.1 in
    printed _ _ _ (passed (goal.at.returns c).In_ok-entries).0 _ front.0 c.if-text-n.false _ (c.put.ensures ∙ ap (sets c.args.text.now 0) front.1)
