-- `word::by_name`: no name but the one that is guessed can be the part. Assumes nothing.
use mathlib.Core.Path.{subst}
use native.Mathlib.Omega.{arith}
use Rattle.std.proofs.lemmas.Bool.Decides.{nat_tests}
use lib.ListN.{length}
use Rattle.names.specs.Word.{Guessed}
use Rattle.names.proofs.Guesses.{first_of_lem, empty_part, long_part, guessed_part}
use Rattle.names.proofs.word.by_name.Goals as goal
use Rattle.names.proofs.word.by_name.Goals.{then-is_empty-via-then-is_empty, then-is_empty-via-else-is_empty+then-part-gt9}

pub returns-then-is_empty-clause-named : goal.returns-then-is_empty-clause-named
returns-then-is_empty-clause-named c =
    elim c.then-is_empty.branch [
      | then-is_empty-via-then-is_empty w ↦ empty_part _ (grind (arith, nat_tests))
      | then-is_empty-via-else-is_empty+then-part-gt9 w ↦ long_part _ w.if-part-gt9.true
    ]

-- the guess is by the part's own first byte
pub returns-clause-named : goal.returns-clause-named
returns-clause-named c =
    let part = c.args.part.now in
    let k = c.in_ok-k.k in
    let guessed = subst (λ a. Guessed a (length part) k) (first_of_lem part) c.in_ok-k.ensures.guessed in
    guessed_part part k guessed c.in_ok-k.ensures.below c.is_name.result c.is_name.ensures _ c.then_some.ensures
