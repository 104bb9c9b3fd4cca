-- `tests::tests5_7`: each test decides one refusal. Assumes nothing.
use native.Mathlib.Omega.{arith}
use Rattle.std.proofs.lemmas.Result.{err_from_is_err_and}
use Rattle.shapes.proofs.Passed.{Shaped, shape-refused, shape_passed, shape_asked, types_missing, passes}
use Rattle.shapes.proofs.tests.tests5_7.Goals as goal
use Rattle.shapes.proofs.tests.tests5_7.Goals.{In_ok-entries}

-- what the first two tests leave known
shaped : (c : In_ok-entries) → Shaped c.args.f c.args.shape.now c.in_ok-entries.entries
shaped c = shape_passed c.args.f c.args.shape.now c.in_ok-entries.entries c.in_ok-entries.ensures

pub returns-in_err-entries : goal.returns-in_err-entries
returns-in_err-entries c t table told =
    let p = err_from_is_err_and c.from_residual.result c.from_residual.ensures.1 in
    rw (p.1, p.2) (shape-refused c.args.f c.args.shape.now c.in_err-entries.field-0.0 c.in_err-entries.ensures t table)

pub entry_types-requires : goal.entry_types-requires
entry_types-requires c =
    let ((whole, some, deep), kept) = shape_asked c.requires.served.0 (shaped (goal.at.entry_types-requires c).In_ok-entries) in
    record { entries_value = (whole, some, omega arith); shape_value = kept; count_in_bounds = c.requires.count_in_bounds }

pub returns-in_err-types : goal.returns-in_err-types
returns-in_err-types c t table told =
    let p = err_from_is_err_and c.from_residual-in_err-types.result c.from_residual-in_err-types.ensures.1 in
    rw (p.1, p.2)
    (types_missing t table told (shaped (goal.at.returns-in_err-types c).In_ok-entries) c.in_err-types.field-0.0 c.in_err-types.ensures)

pub entry_ways-laid-requires : goal.entry_ways-laid-requires
entry_ways-laid-requires c =
    let (asked, kept) = shape_asked c.requires.served.0 (shaped (goal.at.entry_ways-laid-requires c).In_ok-entries) in
    record { entries_value = asked; shape_value = (kept, c.requires.served.1) }

pub returns : goal.returns
returns c t table told =
    passes t table told (shaped (goal.at.returns c).In_ok-entries) c.in_ok-types.types c.in_ok-types.ensures
    c.entry_ways-laid.result c.entry_ways-laid.new.ways c.entry_ways-laid.ensures
