-- `word::first_at`: the first byte says whether a dot leads. Assumes nothing.
use native.Mathlib.Omega.{arith}
use Rattle.std.proofs.lemmas.Bool.Decides.{nat_tests}
use Rattle.names.proofs.Reading.{first-none, first-dot, first_other}
use Rattle.names.proofs.word.first_at.Goals as goal
use Rattle.names.proofs.word.first_at.Goals.{else-not-is_empty-via-then-not-is_empty+else-word-eq46, else-not-is_empty-via-else-not-is_empty}

pub returns-then-word-eq46 : goal.returns-then-word-eq46
returns-then-word-eq46 c = first-dot _ (grind (arith, nat_tests)) c.if-word-eq46.true

pub returns-else-not-is_empty : goal.returns-else-not-is_empty
returns-else-not-is_empty c =
    elim c.else-not-is_empty.branch [
      | else-not-is_empty-via-then-not-is_empty+else-word-eq46 w ↦ first_other _ (grind (arith, nat_tests)) w.if-word-eq46.false
      | else-not-is_empty-via-else-not-is_empty w ↦ first-none _ (grind (arith, nat_tests))
    ]
