-- `moves::move_shape`: what the tests refuse, else what is left to be tested of the entries. Assumes nothing.
use native.Mathlib.Omega.{arith}
use mathlib.Core.Path.{◌≡◌, refl, sym, ◌∙◌, ap}
use Rattle.std.proofs.lemmas.Result.{err_from_is_err_and}
use Rattle.paper.specs.Format.{entry_bytes, whole}
use Rattle.paper.specs.Shapes.{entries}
use Rattle.paper.specs.Calls.{given, tests5_6}
use Rattle.paper.specs.Widths.{shape_to, entry_deep, move_shape}
use Rattle.paper.specs.Refusals.{refusal_number, refusal_place}
use Rattle.shapes.proofs.Examined.{tests_refuse, tests_give, few_entries}
use Rattle.widths.proofs.Answers.{file_refused, shape_tested}
use Rattle.widths.proofs.moves.move_shape.Goals as goal
use Rattle.widths.proofs.moves.move_shape.Goals.{In_ok-entries}

-- the tests are passed
passed : (c : In_ok-entries) →
    (tests5_6 c.args.f c.args.shape.now ≡ given (entries c.args.f c.args.shape.now)) × (c.in_ok-entries.entries ≡ whole (entry_bytes c.args.f) c.args.shape.now)
passed c = tests_give c.args.f c.args.shape.now c.in_ok-entries.entries c.in_ok-entries.ensures

pub returns-in_err-entries : goal.returns-in_err-entries
unfolding move_shape
returns-in_err-entries c =
    let a = c.args in
    let s = a.shape.now in
    let p = err_from_is_err_and c.from_residual.result c.from_residual.ensures.1 in
    let e = c.in_err-entries.field-0.0 in
    rw (p.1, p.2)
    (file_refused (tests5_6 a.f s) (entry_deep a.g) (shape_to a.f a.g s) a.new.now (refusal_number e) (refusal_place e)
    (tests_refuse a.f s e c.in_err-entries.ensures))

pub move_tested-requires : goal.move_tested-requires
move_tested-requires c =
    let s = c.args.shape.now in
    let w = c.entry_bytes.ensures in
    let n = (passed (goal.at.move_tested-requires c).In_ok-entries).1 in
    let few = few_entries c.args.f s 0 0 c.in_ok-entries.entries c.in_ok-entries.ensures refl in
    record {
      served = (c.requires.0, c.requires.1, omega (arith, w), omega (arith, w));
      count_value = (n ∙ ap (λ n. whole n s) (sym w), omega (arith, few));
    }

pub returns : goal.returns
returns c =
    let a = c.args in
    let (tests, n) = passed (goal.at.returns c).In_ok-entries in
    shape_tested a.f a.g _ _ a.shape.now a.new.now _ _ c.move_tested.ensures tests c.entry_bytes.ensures n
