-- `cannot_be`: the three tests, one after the other. Assumes nothing.
use Prim.Native.Nat.{◌*◌}
use mathlib.Core.Path.{◌≡◌, refl, sym, ◌∙◌, ap}
use mathlib.Core.Bool.{true, false, not}
use mir.Syntax.{w64}
use mir.Val.{to_z, of_z}
use native.Mathlib.Omega.{arith}
use borrow.Author.Tests.{le-leb, lt-leb}
use borrow.Author.Rules.{rules}
use Rattle.totals.specs.Sums.{within}
use Rattle.totals.specs.Total.{most_tapes, most_sum}
use Rattle.totals.proofs.TakingIn.{cannot_is}
use Rattle.totals.proofs.cannot_be.Goals as goal

pub returns-then-full : goal.returns-then-full
returns-then-full c =
    let x = c.args.total in
    cannot_is x true (within (x.tapes * most_sum) x.shown) (within (x.tapes * most_sum) x.unshown)
    (le-leb most_tapes x.tapes (omega (arith, c.if-full.true))) refl refl

pub returns-then-not-lies_within : goal.returns-then-not-lies_within
returns-then-not-lies_within c =
    let x = c.args.total in
    let shown : to_z w64 (of_z w64 x.shown) ≡ x.shown = search rules in
    ap not c.if-not-lies_within.true
    ∙ cannot_is x false false (within (x.tapes * most_sum) x.unshown) (lt-leb most_tapes x.tapes (omega (arith, c.if-full.false)))
    (ap (within (x.tapes * most_sum)) (sym shown) ∙ sym c.lies_within.ensures ∙ c.if-not-lies_within.true) refl

pub returns-else-not-lies_within : goal.returns-else-not-lies_within
returns-else-not-lies_within c =
    let x = c.args.total in
    let shown : to_z w64 (of_z w64 x.shown) ≡ x.shown = search rules in
    let unshown : to_z w64 (of_z w64 x.unshown) ≡ x.unshown = search rules in
    let last = c.lies_within-else-not-lies_within in
    cannot_is x false true last.result (lt-leb most_tapes x.tapes (omega (arith, c.if-full.false)))
    (ap (within (x.tapes * most_sum)) (sym shown) ∙ sym c.lies_within.ensures ∙ c.if-not-lies_within.false)
    (ap (within (x.tapes * most_sum)) (sym unshown) ∙ sym last.ensures)
