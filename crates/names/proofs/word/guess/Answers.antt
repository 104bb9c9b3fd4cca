-- `word::guess`: the table has each name where its first byte and its length stand. Assumes nothing.
use Prim.Native.Nat.{◌+◌, ◌*◌, ◌%◌}
use mathlib.Core.Path.{◌∙◌, ap}
use lib.ListN.{get_or}
use Rattle.grammar.specs.Names.{names}
use Rattle.names.proofs.Guesses.{guesses, guessed_by, below_named}
use Rattle.names.proofs.word.guess.Goals as goal

pub returns-clause-guessed : goal.returns-clause-guessed
unfolding names guesses
returns-clause-guessed c =
    below_named _ _ _ _
    (guessed_by _ _ _ (c.wide-k.ensures.0 ∙ ap (λ n. get_or guesses ((n + 21 * c.args.size) % 64) 0) c.wide.ensures.0))
    c.then_some.ensures
