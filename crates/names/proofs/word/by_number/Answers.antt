-- `word::by_number`: the digits passed are those of v. Assumes nothing.
use native.Mathlib.Omega.{arith}
use Rattle.std.proofs.lemmas.Bool.Decides.{nat_tests}
use Rattle.names.proofs.Numbered.{too_long, below_digits, above_digits, none_passed, leading_zero, one_passed, all_passed}
use Rattle.names.proofs.word.by_number.Goals as goal
use Rattle.names.proofs.word.by_number.Goals.{then-is_empty-via-then-is_empty, then-is_empty-via-else-is_empty+then-part-gt5, then-b-lt48-via-then-b-lt48, then-b-lt48-via-else-b-lt48+then-b-gt57}

pub returns-then-is_empty-clause-number : goal.returns-then-is_empty-clause-number
returns-then-is_empty-clause-number c =
    elim c.then-is_empty.branch [
      | then-is_empty-via-then-is_empty w ↦ all_passed (none_passed _) (grind (arith, nat_tests))
      | then-is_empty-via-else-is_empty+then-part-gt5 w ↦ too_long _ w.if-part-gt5.true
    ]

pub returns-then-b-lt48-clause-number : goal.returns-then-b-lt48-clause-number
returns-then-b-lt48-clause-number c =
    elim c.then-b-lt48.branch [
      | then-b-lt48-via-then-b-lt48 w ↦ below_digits _ c.loop-x.x-index (omega arith) (omega (arith, c.wide-b.ensures.0))
      | then-b-lt48-via-else-b-lt48+then-b-gt57 w ↦ above_digits _ c.loop-x.x-index (omega arith) (omega (arith, c.wide-b.ensures.0))
    ]

pub returns-then-v-eq0-clause-number : goal.returns-then-v-eq0-clause-number
returns-then-v-eq0-clause-number c =
    leading_zero c.loop-x.invariant (omega arith) c.wide-b.result c.wide-b.ensures.0 c.if-b-lt48.false c.if-b-gt57.false (omega arith)

pub loop-x-preserved : goal.loop-x-preserved
loop-x-preserved c =
    one_passed c.loop-x.invariant (omega arith) c.wide-b.result c.wide-b.ensures.0 c.if-b-lt48.false c.if-b-gt57.false c.if-v-eq0.false
