-- `take_in`: the tape's refusal, 18, or both sums added. Assumes nothing.
use mathlib.Core.Path.{◌≡◌, sym, ◌∙◌}
use mathlib.Core.Bool.{false}
use native.Mathlib.Omega.{arith}
use Rattle.paper.specs.Widths.{format_of}
use Rattle.totals.specs.Total.{cannot_be}
use Rattle.totals.specs.Told.{tape}
use Rattle.totals.proofs.TakingIn.{sum_fits, sum_held, as_summed, total-refused, tapes_few, sums_sound, tape-sound, total_with_lem}
use Rattle.totals.proofs.take_in.Goals as goal
use Rattle.totals.proofs.take_in.Goals.{Else-cannot_be}

-- the total can be one
can : (c : Else-cannot_be) → cannot_be c.args.total ≡ false
can c = sym c.cannot_be.ensures ∙ c.if-cannot_be.false

pub returns-in-Err : goal.returns-in-Err
returns-in-Err c =
    let a = c.args in
    as_summed a.total (tape (format_of a.width) a.table.now a.shape.now a.entry) c.in-Err.refusal c.in-Err.ensures.result_value

pub returns-then-cannot_be : goal.returns-then-cannot_be
returns-then-cannot_be c =
    let a = c.args in
    let t = tape (format_of a.width) a.table.now a.shape.now a.entry in
    let sums = c.in-Ok in
    total-refused a.total t sums.sums sums.ensures.result_value (sym c.cannot_be.ensures ∙ c.if-cannot_be.true)

pub overflow_add-shown : goal.overflow_add-shown
overflow_add-shown c =
    let x = c.args.total in
    let a = c.args in
    let t = tape (format_of a.width) a.table.now a.shape.now a.entry in
    let s = c.in-Ok.sums in
    let told = c.in-Ok.ensures.result_value in
    let possible = can (goal.at.overflow_add-shown c).Else-cannot_be in
    sum_fits x.tapes (tapes_few x t s told possible) x.shown s.shown (sums_sound x t s told possible).0 (tape-sound x t s told possible).0

pub overflow_add-unshown : goal.overflow_add-unshown
overflow_add-unshown c =
    let x = c.args.total in
    let a = c.args in
    let t = tape (format_of a.width) a.table.now a.shape.now a.entry in
    let s = c.in-Ok.sums in
    let told = c.in-Ok.ensures.result_value in
    let possible = can (goal.at.overflow_add-unshown c).Else-cannot_be in
    sum_fits x.tapes (tapes_few x t s told possible) x.unshown s.unshown (sums_sound x t s told possible).1 (tape-sound x t s told possible).1

pub overflow_add-tapes : goal.overflow_add-tapes
overflow_add-tapes c =
    let x = c.args.total in
    let a = c.args in
    let t = tape (format_of a.width) a.table.now a.shape.now a.entry in
    record { fits = omega (arith, tapes_few x t c.in-Ok.sums c.in-Ok.ensures.result_value (can (goal.at.overflow_add-tapes c).Else-cannot_be)) }

pub returns : goal.returns
returns c =
    let x = c.args.total in
    let a = c.args in
    let t = tape (format_of a.width) a.table.now a.shape.now a.entry in
    let s = c.in-Ok.sums in
    let told = c.in-Ok.ensures.result_value in
    let possible = can (goal.at.returns c).Else-cannot_be in
    let few = tapes_few x t s told possible in
    let old = sums_sound x t s told possible in
    let new = tape-sound x t s told possible in
    total_with_lem x t s told possible _ _ (sum_held x.tapes few x.shown s.shown old.0 new.0) (sum_held x.tapes few x.unshown s.unshown old.1 new.1)
